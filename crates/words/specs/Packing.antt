-- Packing and unpacking by any layout (01 "Packed words", refusal 9).
-- Assumes nothing.
use Rattle.std.specs.Prelude.{◌≡◌, List, [], ◌∷◌, map, ℕ, zero, suc, ◌^◌, ◌<◌, get_or}
use Rattle.tile.specs.Suit.{blank}
use Rattle.tile.specs.declared.found.Found.{Found}
use Rattle.words.specs.Field.{back, made, filled}
use Rattle.words.specs.Layout.{Value, Number, Necessary, Unnecessary, Layout}

abbrev pub value_of : Value → Found → ℕ
value_of Number f = f.number
value_of Necessary f = f.necessary
value_of Unnecessary f = f.unnecessary

-- value v of goal i
abbrev pub value_at : Value → List Found → ℕ → ℕ
value_at v g i = value_of v (get_or g i blank)

-- all values fit: each is less than what its fields can tell apart; so what has no field is 0
pub record Fits (l : Layout) (g : List Found) : Type 0 where
  pub each : (v : Value) (i : ℕ) → value_at v g i < 2 ^ filled (map back (l.fields v)) i

-- word j of value v, as goals make it
abbrev pub word_by : Layout → List Found → Value → ℕ → ℕ
word_by l g v j = made (l.fields v) (value_at v g) j

-- what packing gives: code 0 and the words; or, exactly where a value does not fit, code 9 and words that are all 0.
-- Words are held in some type W, into which `lay` puts them.
pub data PackedBy {W : Type 0} (l : Layout) (lay : (Value → ℕ → ℕ) → W) (g : List Found) (code : ℕ) (words : W) : Type 0 where
  packs : Fits l g → code ≡ 0 → words ≡ lay (word_by l g) → PackedBy l lay g code words
  refuses : (Fits l g → ⊥) → code ≡ 9 → words ≡ lay (λ v j. 0) → PackedBy l lay g code words

-- goal i, as words make it, where w v j is word j of value v
abbrev pub goal_by : Layout → (Value → ℕ → ℕ) → ℕ → Found
goal_by l w i = record { number = value Number; necessary = value Necessary; unnecessary = value Unnecessary }
  where
    value : Value → ℕ
    value v = made (map back (l.fields v)) (w v) i

-- f 0 to f (n - 1)
abbrev pub first_of : {A : Type 0} → ℕ → (ℕ → A) → List A
first_of zero f = []
first_of (suc n) f = f 0 ∷ first_of n (λ i. f (suc i))

-- what unpacking gives
abbrev pub goals_by : Layout → (Value → ℕ → ℕ) → List Found
goals_by l w = first_of l.goals (goal_by l w)
