-- The tiles of a set that the hand does not hold.
-- Assumes nothing.
use Rattle.std.specs.Prelude.{Bool, List, ℕ, ◌-◌, ◌/◌, ◌%◌, ◌^◌, ◌==◌, map, filter, sum}
use Rattle.std.specs.List.{enumerate_from}
use Rattle.tile.specs.Count.{copies}

-- a tile and how many are held: whether it is in the set, and how many are left
abbrev pub in_set : ℕ → ℕ × ℕ → Bool
in_set s t = (s / 2 ^ t.0) % 2 == 1

abbrev pub left : ℕ × ℕ → ℕ
left t = copies - t.1

abbrev pub left_of : ℕ → List ℕ → ℕ
left_of s h = sum (map left (filter (in_set s) (enumerate_from 0 h)))
