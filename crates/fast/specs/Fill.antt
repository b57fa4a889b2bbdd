-- The rows of a rank, laid into one array.
-- Assumes nothing.
use Rattle.std.specs.Prelude.{cond, List, ◌∷◌, ℕ, ◌+◌, ◌*◌, get_or, set, replicate, eqb}
use Rattle.tile.specs.Refusal.{most_melds}
use Rattle.walk.specs.Walk.{up_to}
use Rattle.fast.specs.Word.{none_word, over}
use Rattle.fast.specs.Row.{wide, stride, row_place}

-- the first n words of a row, laid from a place on
unfoldable pub laid_row : ℕ → List ℕ → ℕ → List ℕ → List ℕ
laid_row at row n cells = up_to (λ m cells. set cells (at + m) (get_or row m 0)) n cells

-- how long the array is: eighteen rows
abbrev pub long : ℕ
long = 18 * stride

-- `rows` gives the row of a state and of p pairs
module _ (rows : ℕ → ℕ → ℕ → List ℕ) where
  -- the rows of one state, for the first n numbers of pairs
  unfoldable pub pair_rows : ℕ → ℕ → ℕ → List ℕ → List ℕ
  pair_rows near far n cells = up_to (λ p. laid_row (row_place near far p) (rows near far p) wide) n cells

  -- of the states with this `near`, those with `far` below n
  unfoldable pub far_rows : ℕ → ℕ → List ℕ → List ℕ
  far_rows near n cells = up_to (λ far. pair_rows near far 2) n cells

  -- of the states with `far` below `fars`, those with `near` below n
  unfoldable pub near_rows : ℕ → ℕ → List ℕ → List ℕ
  near_rows fars n cells = up_to (λ near. far_rows near fars) n cells

  -- the whole array: these rows, and `over` everywhere else
  abbrev pub filled : ℕ → ℕ → List ℕ
  filled nears fars = near_rows fars nears (replicate long over)

-- past the last rank: nothing lacks where nothing is left to be laid, else there is no target
abbrev pub end_row : ℕ → ℕ → ℕ → List ℕ
end_row near far p = cond (eqb p 0) (0 ∷ replicate most_melds none_word) (replicate wide none_word)
