-- Which way of answering the program's arguments choose.
-- Assumes nothing.
use Rattle.std.specs.Prelude.{Bool, true, false, cond, ◌&&◌, List, [], ◌∷◌, ℕ, eqb, ltb}
use Rattle.annotate.specs.declared.way.Choice.{Choice}
use Rattle.annotate.specs.declared.way.Choice.TheVariants.{Table, Search, Help}

-- the bytes of `--search`
abbrev pub search_text : List ℕ
search_text = 45 ∷ 45 ∷ 115 ∷ 101 ∷ 97 ∷ 114 ∷ 99 ∷ 104 ∷ []

-- whether two texts are the same
unfoldable pub alike : List ℕ → List ℕ → Bool
alike [] [] = true
alike [] (y ∷ ys) = false
alike (x ∷ xs) [] = false
alike (x ∷ xs) (y ∷ ys) = eqb x y && alike xs ys

-- what `count` words choose, the program's name the first of them and text the second: the name alone the table, `--search` alone behind it the
-- search, anything else help
abbrev pub chosen : ℕ → List ℕ → Choice
chosen count text = cond (ltb count 2) Table (cond (eqb count 2 && alike text search_text) Search Help)
