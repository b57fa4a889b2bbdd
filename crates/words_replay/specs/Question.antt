-- What a stored word question holds, a list q of 52 bytes. Byte 0 says whether to pack; ten goals, or seven words, begin at byte 2.
-- Assumes nothing.
use Rattle.std.specs.Prelude.{List, ℕ, ◌+◌, ◌*◌, get_or}
use Rattle.tile.specs.declared.found.Found.{Found}
use Rattle.words.specs.declared.packed.Words.{Words}
use Rattle.words.specs.Packing.{first_of}

-- numbers of two and of four bytes, lowest first
abbrev pub set_of : ℕ → ℕ → ℕ
set_of a b = a + 256 * b

abbrev pub word_of : ℕ → ℕ → ℕ → ℕ → ℕ
word_of a b c d = a + 256 * b + 65536 * c + 16777216 * d

-- five bytes are a goal: its number, its necessary set, its unnecessary set
abbrev pub goal_at : List ℕ → ℕ → Found
goal_at q i =
    record {
      number = get_or q i 0;
      necessary = set_of (get_or q (i + 1) 0) (get_or q (i + 2) 0);
      unnecessary = set_of (get_or q (i + 3) 0) (get_or q (i + 4) 0);
    }

abbrev pub goals_in : List ℕ → List Found
goals_in q = first_of 10 (λ g. goal_at q (2 + 5 * g))

abbrev pub word_at : List ℕ → ℕ → ℕ
word_at q i = word_of (get_or q i 0) (get_or q (i + 1) 0) (get_or q (i + 2) 0) (get_or q (i + 3) 0)

-- the number word, three words of necessary sets, three of unnecessary sets
abbrev pub words_in : List ℕ → Words
words_in q =
    record {
      number = word_at q 2;
      necessary = first_of 3 (λ w. word_at q (6 + 4 * w));
      unnecessary = first_of 3 (λ w. word_at q (18 + 4 * w));
    }
