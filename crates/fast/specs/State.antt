-- Which states there can be at a rank: sequences run into it only where some may start one rank and two ranks before.
-- Assumes nothing.
use Rattle.std.specs.Prelude.{cond, ℕ, zero, suc}
use Rattle.tile.specs.Board.{Board}

-- how many values `near` can have: 0, 1 and 2 where a sequence may start one rank before, else 0 alone
abbrev pub nears_at : Board → ℕ → ℕ
nears_at b zero = 1
nears_at b (suc i) = cond (b.starts i) 3 1

-- and `far`, two ranks before
abbrev pub fars_at : Board → ℕ → ℕ
fars_at b zero = 1
fars_at b (suc i) = nears_at b i
