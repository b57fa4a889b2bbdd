-- What the code hands out for a choice of s sequences, q triplets and p pairs.
-- Assumes nothing.
use Rattle.std.specs.Prelude.{ℕ, ◌+◌, ◌*◌}
use Rattle.walk.specs.Choice.{sequences_of, triplets_of, pairs_of}
use Rattle.suit.specs.declared.choice.Choice.{Choice}

abbrev pub made : ℕ → ℕ → ℕ → Choice
made s q p = record { sequences = s; pairs = p; melds = s + q; tiles = s + 3 * q + 2 * p }

-- choice c of the tables
abbrev pub choice_of : ℕ → Choice
choice_of c = made (sequences_of c) (triplets_of c) (pairs_of c)
