-- A suit as the search has it, and how many tiles of it the hand holds.
-- Assumes nothing.
use Rattle.std.specs.Prelude.{Bool, true, cond, ℕ, ◌+◌, ltb, leb}
use Rattle.tile.specs.Board.{Board}

-- the suit's board, below which rank a sequence may start, the way from one rank that may be held to the next, and the tiles held
pub record Task : Type 0 where
  pub board : Board
  pub runs : ℕ
  pub step : ℕ
  pub held : ℕ

abbrev pub task_of : Board → ℕ → ℕ → ℕ → Task
task_of b runs step held = record { board = b; runs = runs; step = step; held = held }

-- how many choices are tried at a rank that may be held
abbrev pub choices_for : ℕ → ℕ → ℕ
choices_for runs i = cond (ltb i runs) 8 3

-- a sequence may still start at rank i, or each of `left` pairs and melds has a rank from i on
abbrev pub room_for : ℕ → ℕ → ℕ → ℕ → Bool
room_for runs kinds i left = cond (ltb i runs) true (leb (i + left) kinds)
