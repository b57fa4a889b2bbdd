-- The ten goals of a suit as ten words (01 "One suit", "Packed words"): goal g is g / 5 pairs and g % 5 melds.
-- Assumes nothing.
use Rattle.std.specs.Prelude.{◌≡◌, List, ℕ, ◌/◌, ◌%◌, ◌^◌, ◌<◌, length, get_or}
use Rattle.tile.specs.Board.{Board}
use Rattle.lastavon.specs.Word.{WordFor}
use Rattle.lastavon.specs.Room.{Room}

-- w is ten words, each that of its goal, and c is their code: 0, or the number of the refusal, which each has in its bits 48 to 55
pub record GoalWords (b : Board) (h : List ℕ) (c : ℕ) (w : List ℕ) : Type 0 where
  pub ten : length w ≡ 10
  pub each : (g : ℕ) → g < 10 → WordFor b (g / 5) (g % 5) h (get_or w g 0)
  pub code : (g : ℕ) → g < 10 → get_or w g 0 / 2 ^ 48 ≡ c

-- c is returned, and the words y stand where x stood: the ten goals' words and their code; or, where x is not ten words, 8 and x as it was
abbrev pub GoalsWritten : Board → List ℕ → List ℕ → ℕ → List ℕ → Type 0
GoalsWritten b h x c y = Room 10 (GoalWords b h) x c y
