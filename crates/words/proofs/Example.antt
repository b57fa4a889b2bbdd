-- Worked examples: entry 0 of the published 1m/9m numbers, and goals in which no two values that could be taken for each other are equal.
-- Assumes nothing.
use mathlib.Core.Path.{◌≡◌, refl}
use mathlib.Core.List.{List, [], ◌∷◌, map}
use Prim.Native.Nat.{ℕ}
use lib.ListN.{get_or}
use Rattle.tile.specs.declared.found.Found.{Found}
use Rattle.words.specs.declared.packed.Words.{Words}
use Rattle.words.specs.Field.{back, made}
use Rattle.words.specs.Layout.{Number, ten_goals, seven_words}
use Rattle.words.specs.Packing.{word_by, first_of}
use Rattle.words.specs.Promise.{seven, goals_of}

abbrev entry : List ℕ
entry = 0 ∷ 3 ∷ 6 ∷ 14 ∷ 14 ∷ 2 ∷ 5 ∷ 14 ∷ 14 ∷ 14 ∷ []

entry_0 : first_of 10 (made (map back (ten_goals Number)) (λ j. 1002102235)) ≡ entry
entry_0 = refl

entry_0_back : made (ten_goals Number) (λ i. get_or entry i 0) 0 ≡ 1002102235
entry_0_back = refl

abbrev goal : ℕ → ℕ → ℕ → Found
goal n a b = record { number = n; necessary = a; unnecessary = b }

abbrev goals : List Found
goals =
    goal 0 0 160 ∷ goal 1 257 161 ∷ goal 5 258 162 ∷ goal 8 259 419 ∷ goal 9 260 164
    ∷ goal 2 261 165 ∷ goal 6 262 166 ∷ goal 10 263 167 ∷ goal 11 264 168 ∷ goal 12 265 169
    ∷ []

abbrev words : Words
words = record { number = 854283029; necessary = 68027649 ∷ 68815620 ∷ 69603591 ∷ []; unnecessary = 3532210848 ∷ 697608771 ∷ 44388519 ∷ [] }

example_packed : seven (word_by seven_words goals) ≡ words
example_packed = refl

example_unpacked : goals_of words ≡ goals
example_unpacked = refl
