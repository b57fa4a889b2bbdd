-- A row: the words of one state and one number of pairs, for no meld up to the most melds. What the choices at a rank make of it.
-- Assumes nothing.
use Rattle.std.specs.Prelude.{Bool, cond, ◌&&◌, List, ℕ, suc, ◌+◌, ◌-◌, ◌*◌, ◌<◌, get_or, replicate, leb}
use Rattle.tile.specs.Count.{copies}
use Rattle.tile.specs.Refusal.{most_melds}
use Rattle.walk.specs.Choice.{sequences_of, triplets_of, pairs_of}
use Rattle.walk.specs.Walk.{up_to}
use Rattle.table.specs.Table.{listed}
use Rattle.fast.specs.Word.{none_word, meet18}

-- how many words a row has
abbrev pub wide : ℕ
wide = suc most_melds

-- All rows of a rank stand in one array, two for each of nine states. The two words before each row are `over`, so that what lies up to two melds
-- before its start is no target: no choice has more.
abbrev pub stride : ℕ
stride = wide + 2

-- where the row of a state and of p pairs begins
abbrev pub row_place : ℕ → ℕ → ℕ → ℕ
row_place near far p = stride * (6 * near + 2 * far + p) + 2

-- every word is below 2^26
pub record Low (cells : List ℕ) : Type 0 where
  pub most : (j : ℕ) → get_or cells j 0 < 67108864

-- what a rank adds is below 2^21, so that the sum with such a word fits 32 bits
pub record LowAdds (adds : List ℕ) : Type 0 where
  pub most : (j : ℕ) → get_or adds j 0 < 2097152

-- a row, met with the words from a place on, to which a rank adds
unfoldable pub joined_row : List ℕ → List ℕ → ℕ → ℕ → List ℕ
joined_row row next from add = listed (λ m. meet18 (get_or row m 0) (get_or next (from + m) 0 + add)) 0 wide

-- one choice of s sequences, q triplets and d pairs: passed over where it does not fit
unfoldable pub choice_row : List ℕ → List ℕ → ℕ → ℕ → ℕ → ℕ → ℕ → ℕ → List ℕ → List ℕ
choice_row next adds near far p s q d row =
    let n = far + near + (s + 3 * q + 2 * d) in
    cond (leb d p && leb n copies) (joined_row row next (row_place s near (p - d) - (s + q)) (get_or adds n 0)) row

-- choice c of the tables
abbrev pub chosen_row : List ℕ → List ℕ → ℕ → ℕ → ℕ → ℕ → List ℕ → List ℕ
chosen_row next adds near far p c = choice_row next adds near far p (sequences_of c) (triplets_of c) (pairs_of c)

-- the first n choices in order
unfoldable pub best_row : List ℕ → List ℕ → ℕ → ℕ → ℕ → ℕ → List ℕ
best_row next adds n near far p = up_to (chosen_row next adds near far p) n (replicate wide none_word)

-- how many choices are tried, as the code tests it: where no tile may be held no sequence starts
abbrev pub tried_if : Bool → Bool → ℕ
tried_if held starts = cond held (cond starts 8 3) 1
