-- A target on its way: what can be laid when the walk comes to a rank.
-- No count passes four, though only the rank that is filled is tested: a rank gets at most two tiles from each of the two ranks before it.
-- Assumes nothing.
use Rattle.std.specs.Prelude.{◌≡◌, List, ℕ, ◌-◌, ◌*◌, ◌≤◌, length, get_or, T}
use Rattle.tile.specs.Count.{copies}
use Rattle.tile.specs.Board.{Board, may_hold}

-- on the way to rank i: up to rank i at most four tiles of a kind, of the next rank two, after it none, and none of a kind that may not be held
pub record Begun (b : Board) (i : ℕ) (t : List ℕ) : Type 0 where
  pub few : (j : ℕ) → get_or t j 0 ≤ copies - 2 * (j - i)
  pub only : (j : ℕ) → (T (may_hold b j) → ⊥) → get_or t j 0 ≡ 0
  pub long : b.kinds ≤ length t
