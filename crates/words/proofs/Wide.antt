-- Another layout needs no new proof of its round trips: wide words of twelve goals, five bits a number, six sets of nine bits to a word (document 02, §10).
-- Assumes nothing.
use mathlib.Core.Path.{◌≡◌}
use mathlib.Core.List.{List, [], ◌∷◌}
use Prim.Native.Nat.{ℕ, zero, suc, ◌*◌, ◌/◌, ◌%◌, ◌^◌}
use lib.ListN.{length, get_or}
use Rattle.tile.specs.declared.found.Found.{Found}
use Rattle.words.specs.Field.{Field, bits}
use Rattle.words.specs.Layout.{Value, Number, Necessary, Unnecessary, Layout, whole}
use Rattle.words.specs.Packing.{word_by, PackedBy, first_of, goals_by}
use Rattle.words.proofs.Held.{Holder, there_and_back, back_and_there}
use Rattle.words.proofs.Round.{first_at, words_again}

-- a field for each of n goals, from goal g on
abbrev row : (ℕ → Field) → ℕ → ℕ → List Field
row f g zero = []
row f g (suc n) = f g ∷ row f (suc g) n

-- The places of goal 0's number and necessary set are unused.
abbrev twelve_goals : Value → List Field
twelve_goals Number = row (λ g. whole g 0 (5 * g) 5) 1 11
twelve_goals Necessary = row (λ g. whole g (g / 6) (9 * (g % 6)) 9) 1 11
twelve_goals Unnecessary = row (λ g. whole g (g / 6) (9 * (g % 6)) 9) 0 12

abbrev wide : Layout
wide = record { goals = 12; fields = twelve_goals }

-- five words in lists, one of numbers and two of each set
abbrev many : Value → ℕ
many Number = 1
many Necessary = 2
many Unnecessary = 2

abbrev holder : Holder (Value → List ℕ)
holder = record { lay = λ w v. first_of (many v) (w v); at = λ w v j. get_or (w v) j 0; many = many; reads = λ w v j u. first_at 0 (many v) (w v) j u }

wide_again : {g : List Found} {x : Value → List ℕ} → length g ≡ 12 → PackedBy wide holder.lay g 0 x → goals_by wide (holder.at x) ≡ g
wide_again = there_and_back wide holder tt tt

wide_back : (x : Value → List ℕ) {y : Value → List ℕ} {c : ℕ} → PackedBy wide holder.lay (goals_by wide (holder.at x)) c y
    → (c ≡ 0) × (y ≡ holder.lay (word_by wide (goals_by wide (holder.at x))))
wide_back = back_and_there wide holder tt

-- bits 5 to 59 of the number word are used, 9 to 53 of the first necessary word, 0 to 53 of the other words
module _ (w : Value → ℕ → ℕ) where
  abbrev again : Value → ℕ → ℕ
  again = word_by wide (goals_by wide w)

  number_used : again Number 0 ≡ bits (w Number 0) 5 55 * 2 ^ 5
  number_used = words_again wide tt w Number 0 5 tt

  first_used : again Necessary 0 ≡ bits (w Necessary 0) 9 45 * 2 ^ 9
  first_used = words_again wide tt w Necessary 0 9 tt

  second_used : again Necessary 1 ≡ bits (w Necessary 1) 0 54 * 2 ^ 0
  second_used = words_again wide tt w Necessary 1 0 tt

  others_used : (again Unnecessary 0 ≡ bits (w Unnecessary 0) 0 54 * 2 ^ 0) × (again Unnecessary 1 ≡ bits (w Unnecessary 1) 0 54 * 2 ^ 0)
  others_used = (words_again wide tt w Unnecessary 0 0 tt, words_again wide tt w Unnecessary 1 0 tt)
