-- What is promised of packing into seven words and of unpacking them (01 "Packed words", refusal 9).
-- Assumes nothing.
use Rattle.std.specs.Prelude.{List, [], ◌∷◌, ℕ, ◌%◌, ◌^◌, get_or}
use Rattle.tile.specs.declared.found.Found.{Found}
use Rattle.words.specs.declared.packed.Words.{Words}
use Rattle.words.specs.declared.packed.Packed.{Packed}
use Rattle.words.specs.Layout.{Value, Number, Necessary, Unnecessary, seven_words}
use Rattle.words.specs.Packing.{PackedBy, first_of, goals_by}

-- seven words: one of numbers, three of each set
abbrev pub seven : (Value → ℕ → ℕ) → Words
seven w = record { number = w Number 0; necessary = first_of 3 (w Necessary); unnecessary = first_of 3 (w Unnecessary) }

-- word j of each value among them
abbrev pub word_at : Words → Value → ℕ → ℕ
word_at w Number j = get_or (w.number ∷ []) j 0
word_at w Necessary j = get_or w.necessary j 0
word_at w Unnecessary j = get_or w.unnecessary j 0

-- what packing gives
abbrev pub PackedFrom : List Found → Packed → Type 0
PackedFrom g r = PackedBy seven_words seven g r.code r.words

-- what unpacking gives
abbrev pub goals_of : Words → List Found
goals_of w = goals_by seven_words (word_at w)

-- the words with the unused bits cleared: 30 and 31 of the number word, 27 to 31 of each necessary word, 31 of unnecessary word 1,
-- 27 to 31 of unnecessary word 2; of unnecessary word 0 all 32 are used
abbrev pub cleared : Words → Words
cleared w =
    record {
      number = w.number % 2 ^ 30;
      necessary = first_of 3 (λ j. word_at w Necessary j % 2 ^ 27);
      unnecessary = word_at w Unnecessary 0 % 2 ^ 32 ∷ word_at w Unnecessary 1 % 2 ^ 31 ∷ word_at w Unnecessary 2 % 2 ^ 27 ∷ [];
    }
