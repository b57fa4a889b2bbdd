-- There and back by any layout that passes one test: goals that fit come back from their words, and words come back from their goals
-- but for the bits that no field holds.
-- Assumes nothing.
use mathlib.Core.Path.{◌≡◌, refl, sym, ap, ◌∙◌}
use mathlib.Core.Bool.{Bool, ◌&&◌}
use mathlib.Core.List.{List, [], ◌∷◌, map}
use Prim.Native.Nat.{ℕ, zero, suc, ◌*◌, ◌^◌, ◌<◌}
use native.Mathlib.Omega.{arith}
use lib.Dec.{T, ltb, ltb→lt}
use lib.ListN.{length, get_or}
use lib.Seq.{ext_get_or}
use Rattle.tile.specs.Suit.{blank}
use Rattle.tile.specs.declared.found.Found.{Found}
use Rattle.tile.proofs.Tests.{and_first, and_second, all_to, all_to_lem}
use Rattle.words.specs.Field.{Field, back, bits, made, filled}
use Rattle.words.specs.Layout.{Value, Number, Necessary, Unnecessary, Layout}
use Rattle.words.specs.Packing.{value_of, value_at, Fits, word_by, goal_by, first_of, goals_by}
use Rattle.words.proofs.Fitting.{for_values, for_values_lem, fits_each}
use Rattle.words.proofs.Reading.{every, tidy}
use Rattle.words.proofs.Runs.{gapless, made_less, given_back, cleared_run}

-- ---- the test

-- the fields take from the first n cells only
abbrev pub below : ℕ → List Field → Bool
below n = every (λ f. ltb f.from n)

-- for n goals: the fields are of these goals, and those of a goal hold its lowest bits;
-- no two hold one bit of a word or of a goal, and they are listed from the lowest bit up
abbrev placed : ℕ → List Field → Bool
placed n fs = below n fs && all_to n (λ i. gapless (map back fs) i 0)

abbrev apart : List Field → Bool
apart fs = tidy fs && tidy (map back fs)

abbrev pub sound : Layout → Bool
sound l = for_values (λ v. placed l.goals (l.fields v) && apart (l.fields v))

-- ---- one of the three values

-- where the cells that are taken from are the same, so is what is made
alike : (n : ℕ) (fs : List Field) → T (below n fs) → (x y : ℕ → ℕ) → ((j : ℕ) → j < n → x j ≡ y j) → (i : ℕ) → made fs x i ≡ made fs y i
alike n [] t x y h i = refl
alike n (f ∷ fs) t x y h i =
    let b = ltb f.from n in
    rw (h f.from (ltb→lt f.from n (and_first b (below n fs) t)), alike n fs (and_second b (below n fs) t) x y h i)

module _ (n : ℕ) (fs : List Field) (t : T (placed n fs && apart fs)) where
  is_placed : T (placed n fs)
  is_placed = and_first (placed n fs) (apart fs) t

  is_apart : T (apart fs)
  is_apart = and_second (placed n fs) (apart fs) t

  lowest : (i : ℕ) → i < n → T (gapless (map back fs) i 0)
  lowest = all_to_lem n (λ i. gapless (map back fs) i 0) (and_second (below n fs) (all_to n (λ i. gapless (map back fs) i 0)) is_placed)

  value_again : (x : ℕ → ℕ) (i : ℕ) → i < n → x i < 2 ^ filled (map back fs) i → made (map back fs) (made fs x) i ≡ x i
  value_again x i u l = given_back fs (and_first (tidy fs) (tidy (map back fs)) is_apart) x i (lowest i u) l

  word_again : (w x : ℕ → ℕ) → ((i : ℕ) → i < n → x i ≡ made (map back fs) w i) → (j b : ℕ) → T (gapless fs j b)
      → made fs x j ≡ bits (w j) b (filled fs j) * 2 ^ b
  word_again w x h j b g =
      alike n fs (and_first (below n fs) (all_to n (λ i. gapless (map back fs) i 0)) is_placed) x (made (map back fs) w) h j
      ∙ cleared_run fs (and_second (tidy fs) (tidy (map back fs)) is_apart) w j b g

-- ---- goals

same : (f h : Found) → ((v : Value) → value_of v f ≡ value_of v h) → f ≡ h
same f h e = λ i. record { number = e Number i; necessary = e Necessary i; unnecessary = e Unnecessary i }

length_first : {A : Type 0} (n : ℕ) (f : ℕ → A) → length (first_of n f) ≡ n
length_first zero f = refl
length_first (suc n) f = ap suc (length_first n (λ i. f (suc i)))

pub first_at : {A : Type 0} (d : A) (n : ℕ) (f : ℕ → A) (i : ℕ) → i < n → get_or (first_of n f) i d ≡ f i
first_at d zero f i l = absurd (omega arith)
first_at d (suc n) f zero l = refl
first_at d (suc n) f (suc i) l = first_at d n (λ i. f (suc i)) i (omega arith)

first_alike : (n : ℕ) (f h : ℕ → Found) → ((i : ℕ) → f i ≡ h i) → first_of n f ≡ first_of n h
first_alike zero f h e = refl
first_alike (suc n) f h e = λ j. e 0 j ∷ first_alike n (λ i. f (suc i)) (λ i. h (suc i)) (λ i. e (suc i)) j

value_by : (l : Layout) (w : Value → ℕ → ℕ) (i : ℕ) (v : Value) → value_of v (goal_by l w i) ≡ made (map back (l.fields v)) (w v) i
value_by l w i Number = refl
value_by l w i Necessary = refl
value_by l w i Unnecessary = refl

-- words that are the same as far as the fields go make the same goals
pub goals_alike : (l : Layout) (n : Value → ℕ) → T (for_values (λ v. below (n v) (map back (l.fields v)))) → (x w : Value → ℕ → ℕ)
    → ((v : Value) (j : ℕ) → j < n v → x v j ≡ w v j) → goals_by l x ≡ goals_by l w
goals_alike l n t x w h = first_alike l.goals (goal_by l x) (goal_by l w) (λ i. same (goal_by l x i) (goal_by l w i) (each i))
  where
    inside : (v : Value) → T (below (n v) (map back (l.fields v)))
    inside = for_values_lem (λ v. below (n v) (map back (l.fields v))) t

    each : (i : ℕ) (v : Value) → value_of v (goal_by l x i) ≡ value_of v (goal_by l w i)
    each i v = value_by l x i v ∙ alike (n v) (map back (l.fields v)) (inside v) (x v) (w v) (h v) i ∙ sym (value_by l w i v)

module _ (l : Layout) (s : T (sound l)) where
  passed : (v : Value) → T (placed l.goals (l.fields v) && apart (l.fields v))
  passed = for_values_lem (λ v. placed l.goals (l.fields v) && apart (l.fields v)) s

  -- goals that fit come back
  pub goals_again : (g : List Found) → length g ≡ l.goals → Fits l g → goals_by l (word_by l g) ≡ g
  goals_again g e f = ext_get_or blank (goals_by l (word_by l g)) g (long ∙ sym e) (λ i u. each i (omega (arith, long)))
    where
      long : length (goals_by l (word_by l g)) ≡ l.goals
      long = length_first l.goals (goal_by l (word_by l g))

      value : (i : ℕ) → i < l.goals → (v : Value) → value_of v (goal_by l (word_by l g) i) ≡ value_at v g i
      value i u v = value_by l (word_by l g) i v ∙ value_again l.goals (l.fields v) (passed v) (value_at v g) i u (f.each v i)

      each : (i : ℕ) → i < l.goals → get_or (goals_by l (word_by l g)) i blank ≡ get_or g i blank
      each i u = first_at blank l.goals (goal_by l (word_by l g)) i u ∙ same (goal_by l (word_by l g) i) (get_or g i blank) (value i u)

  module _ (w : Value → ℕ → ℕ) where
    value_made : (v : Value) (i : ℕ) → i < l.goals → value_at v (goals_by l w) i ≡ made (map back (l.fields v)) (w v) i
    value_made v i u = ap (value_of v) (first_at blank l.goals (goal_by l w) i u) ∙ value_by l w i v

    -- what words make always fits
    pub words_fit : Fits l (goals_by l w)
    words_fit =
        fits_each l (goals_by l w) (length_first l.goals (goal_by l w))
        (λ v i u. omega (arith, value_made v i u, made_less (map back (l.fields v)) (w v) i (lowest l.goals (l.fields v) (passed v) i u)))

    -- a word whose fields leave no gap from bit b on comes back with the bits that they hold
    pub words_again : (v : Value) (j b : ℕ) → T (gapless (l.fields v) j b) → word_by l (goals_by l w) v j ≡ bits (w v j) b (filled (l.fields v) j) * 2 ^ b
    words_again v j b t = word_again l.goals (l.fields v) (passed v) (w v) (value_at v (goals_by l w)) (value_made v) j b t
