-- Where the values of the goals stand in the words (01 "Packed words"). Shifts and widths are stated here; the code writes them out, and is proved to agree.
-- Assumes nothing.
use Rattle.std.specs.Prelude.{List, [], ◌∷◌, ℕ}
use Rattle.words.specs.Field.{Field}

-- which of a goal's three values: each has words of its own
pub data Value : Type 0 where
  Number : Value
  Necessary : Value
  Unnecessary : Value

-- how many goals there are, and the fields of each value; those of one word, and those of one goal, are listed from the lowest bit up
pub record Layout : Type 0 where
  pub goals : ℕ
  pub fields : Value → List Field

-- the whole value of a goal: goal, word, shift, width
abbrev pub whole : ℕ → ℕ → ℕ → ℕ → Field
whole g w s n = record { from = g; low = 0; to = w; shift = s; width = n }

-- a piece of the value of a goal, from a bit of it on: goal, bit, word, shift, width
abbrev pub piece : ℕ → ℕ → ℕ → ℕ → ℕ → Field
piece g b w s n = record { from = g; low = b; to = w; shift = s; width = n }

-- One word of numbers and three of each set. Goal 0 has no field for its number and none for its necessary set: they are not stored and read 0.
-- The unnecessary set of goal 3 stands in two words: its low four bits in word 1, the five above them in word 0.
abbrev pub ten_goals : Value → List Field
ten_goals Number =
    whole 1 0 0 2 ∷ whole 2 0 2 3 ∷ whole 3 0 5 4 ∷ whole 4 0 9 4
    ∷ whole 5 0 13 2 ∷ whole 6 0 15 3 ∷ whole 7 0 18 4 ∷ whole 8 0 22 4 ∷ whole 9 0 26 4
    ∷ []
ten_goals Necessary =
    whole 1 0 0 9 ∷ whole 2 0 9 9 ∷ whole 3 0 18 9
    ∷ whole 4 1 0 9 ∷ whole 5 1 9 9 ∷ whole 6 1 18 9
    ∷ whole 7 2 0 9 ∷ whole 8 2 9 9 ∷ whole 9 2 18 9
    ∷ []
ten_goals Unnecessary =
    whole 0 0 0 9 ∷ whole 1 0 9 9 ∷ whole 2 0 18 9
    ∷ piece 3 0 1 0 4 ∷ piece 3 4 0 27 5
    ∷ whole 4 1 4 9 ∷ whole 5 1 13 9 ∷ whole 6 1 22 9
    ∷ whole 7 2 0 9 ∷ whole 8 2 9 9 ∷ whole 9 2 18 9
    ∷ []

abbrev pub seven_words : Layout
seven_words = record { goals = 10; fields = ten_goals }
