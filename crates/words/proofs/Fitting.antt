-- Values fit a layout exactly where each is within the limit of its goal, and so says the test of the code.
-- Assumes nothing.
use mathlib.Core.Path.{◌≡◌, refl, ap, ◌∙◌}
use mathlib.Core.Logic.{⊎_elim}
use mathlib.Core.Bool.{Bool, ◌&&◌}
use mathlib.Core.List.{List, [], ◌∷◌, map}
use Prim.Native.Nat.{ℕ, zero, suc, ◌^◌, ◌≤◌, ◌<◌}
use native.Mathlib.Omega.{arith}
use lib.Dec.{T, eqb, leb, eqb→eq, leb→le, le→leb}
use lib.ListN.{length, get_or, get_or-eq_default}
use lib.Pow.{pow_pos}
use Rattle.std.specs.List.{list_all, zip}
use Rattle.tile.specs.Suit.{blank}
use Rattle.tile.specs.declared.found.Found.{Found}
use Rattle.tile.proofs.Tests.{at_most_or_over, and_first, and_second, and_both, eq→eqb, all_to, all_to_lem}
use Rattle.words.specs.Field.{back, filled}
use Rattle.words.specs.Layout.{Value, Number, Necessary, Unnecessary, Layout}
use Rattle.words.specs.Packing.{value_of, value_at, Fits}
use Rattle.words.specs.Limit.{numbers, most, within, all_low, all_within}

-- ---- one test for the three values of a goal

abbrev pub for_values : (Value → Bool) → Bool
for_values test = test Number && (test Necessary && test Unnecessary)

pub for_values_lem : (test : Value → Bool) → T (for_values test) → (v : Value) → T (test v)
for_values_lem test t Number = and_first (test Number) (test Necessary && test Unnecessary) t
for_values_lem test t Necessary = and_first (test Necessary) (test Unnecessary) (and_second (test Number) (test Necessary && test Unnecessary) t)
for_values_lem test t Unnecessary = and_second (test Necessary) (test Unnecessary) (and_second (test Number) (test Necessary && test Unnecessary) t)

-- ---- limits

-- the values of goal i are within its limits
pub record Within (m : Value → ℕ → ℕ) (g : List Found) (i : ℕ) : Type 0 where
  pub each : (v : Value) → value_at v g i ≤ m v i

-- past the last goal there is nothing
blank_value : (v : Value) → value_of v blank ≡ 0
blank_value Number = refl
blank_value Necessary = refl
blank_value Unnecessary = refl

past : (v : Value) (g : List Found) (i : ℕ) → length g ≤ i → value_at v g i ≡ 0
past v g i l = ap (value_of v) (get_or-eq_default g blank l) ∙ blank_value v

-- values fit if they do at each goal
pub fits_each : (l : Layout) (g : List Found) → length g ≡ l.goals
    → ((v : Value) (i : ℕ) → i < l.goals → value_at v g i < 2 ^ filled (map back (l.fields v)) i) → Fits l g
fits_each l g e h = record { each = each }
  where
    each : (v : Value) (i : ℕ) → value_at v g i < 2 ^ filled (map back (l.fields v)) i
    each v i =
        ⊎_elim (λ p. omega (arith, past v g i (omega arith), pow_pos (filled (map back (l.fields v)) i))) (λ u. h v i u) (at_most_or_over l.goals i)

-- the limits are what the fields of the layout hold
abbrev limit : (Value → ℕ → ℕ) → Layout → Value → ℕ → Bool
limit m l v i = eqb (suc (m v i)) (2 ^ filled (map back (l.fields v)) i)

abbrev pub meets : (Value → ℕ → ℕ) → Layout → Bool
meets m l = for_values (λ v. all_to l.goals (limit m l v))

module _ (m : Value → ℕ → ℕ) (l : Layout) (t : T (meets m l)) (g : List Found) where
  holds : (v : Value) (i : ℕ) → i < l.goals → suc (m v i) ≡ 2 ^ filled (map back (l.fields v)) i
  holds v i u = eqb→eq _ _ (all_to_lem l.goals (limit m l v) (for_values_lem (λ v. all_to l.goals (limit m l v)) t v) i u)

  pub within_fits : length g ≡ l.goals → ((i : ℕ) → i < l.goals → Within m g i) → Fits l g
  within_fits e w = fits_each l g e (λ v i u. omega (arith, holds v i u, (w i u).each v))

  pub fits_within : Fits l g → (i : ℕ) → i < l.goals → Within m g i
  fits_within f i u = record { each = λ v. omega (arith, holds v i u, f.each v i) }

-- ---- the test of the code

module _ {A B : Type 0} (test : A × B → Bool) (a : A) (b : B) where
  -- two lists pass side by side exactly where they do at each place
  told : (xs : List A) (ys : List B) → T (list_all test (zip xs ys))
      → (i : ℕ) → i < length xs → i < length ys → T (test (get_or xs i a, get_or ys i b))
  told [] ys t i u v = absurd (omega arith)
  told (x ∷ xs) [] t i u v = absurd (omega arith)
  told (x ∷ xs) (y ∷ ys) t zero u v = and_first (test (x, y)) (list_all test (zip xs ys)) t
  told (x ∷ xs) (y ∷ ys) t (suc i) u v = told xs ys (and_second (test (x, y)) (list_all test (zip xs ys)) t) i (omega arith) (omega arith)

  tells : (xs : List A) (ys : List B) → ((i : ℕ) → i < length xs → i < length ys → T (test (get_or xs i a, get_or ys i b)))
      → T (list_all test (zip xs ys))
  tells [] ys h = tt
  tells (x ∷ xs) [] h = tt
  tells (x ∷ xs) (y ∷ ys) h =
      and_both (test (x, y)) (list_all test (zip xs ys)) (h zero (omega arith) (omega arith)) (tells xs ys (λ i u v. h (suc i) (omega arith) (omega arith)))

-- the test of a goal beside its number's limit
abbrev low : Found × ℕ → Bool
low t = within t.0 t.1 0x1FF 0x1FF

-- the limit of a necessary set is nine kinds, but for goal 0
set_most : (i : ℕ) → i < 10 → most Necessary i ≤ 0x1FF
set_most i u = leb→le _ _ (all_to_lem 10 (λ i. leb (most Necessary i) 0x1FF) tt i u)

pub set_room : (i : ℕ) → i < 9 → 0x1FF ≤ most Necessary (suc i)
set_room i u = leb→le _ _ (all_to_lem 9 (λ i. leb 0x1FF (most Necessary (suc i))) tt i u)

module _ (g : List Found) (ten : length g ≡ 10) where
  pub test_within : T (all_within g) → (i : ℕ) → i < 10 → Within most g i
  test_within t i u = record { each = each i u }
    where
      tests : (i : ℕ) → i < 10 → T (low (get_or g i blank, get_or numbers i 0))
      tests i u = told low blank 0 g numbers (and_second (eqb (value_at Necessary g 0) 0) (all_low g) t) i (omega arith) u

      sets : (i : ℕ) → i < 10 → T (leb (value_at Necessary g i) 0x1FF && leb (value_at Unnecessary g i) 0x1FF)
      sets i u = and_second (leb (value_at Number g i) (most Number i)) _ (tests i u)

      each : (i : ℕ) → i < 10 → (v : Value) → value_at v g i ≤ most v i
      each i u Number = leb→le _ _ (and_first (leb (value_at Number g i) (most Number i)) _ (tests i u))
      each zero u Necessary = omega (arith, eqb→eq _ _ (and_first (eqb (value_at Necessary g 0) 0) (all_low g) t))
      each (suc i) u Necessary = omega (arith, leb→le _ _ (and_first (leb (value_at Necessary g (suc i)) 0x1FF) _ (sets (suc i) u)), set_room i (omega arith))
      each i u Unnecessary = leb→le _ _ (and_second (leb (value_at Necessary g i) 0x1FF) _ (sets i u))

  pub within_test : ((i : ℕ) → i < 10 → Within most g i) → T (all_within g)
  within_test w =
      and_both (eqb (value_at Necessary g 0) 0) (all_low g) (eq→eqb _ 0 (omega (arith, (w 0 (omega arith)).each Necessary)))
      (tells low blank 0 g numbers (λ i u v. passes i v))
    where
      passes : (i : ℕ) → i < 10 → T (low (get_or g i blank, get_or numbers i 0))
      passes i u =
          and_both (leb (value_at Number g i) (most Number i)) _ (le→leb _ _ ((w i u).each Number))
          (and_both (leb (value_at Necessary g i) 0x1FF) _ (le→leb _ _ (omega (arith, (w i u).each Necessary, set_most i u))) (le→leb _ _ ((w i u).each Unnecessary)))
