-- How many kinds a set has, and how many tiles of these kinds the hand does not hold (01 "What a target is").
-- Assumes nothing.
use Rattle.std.specs.Prelude.{List, ℕ, zero, suc, ◌+◌, ◌-◌, ◌*◌, get_or}
use Rattle.tile.specs.Count.{copies, one_if}

-- how many of the first n kinds are in the set s
unfoldable pub kinds_to : ℕ → ℕ → ℕ
kinds_to zero s = 0
kinds_to (suc n) s = kinds_to n s + one_if s n

-- how many tiles of these kinds the hand h does not hold: the sum of 4 minus the held count over the set
unfoldable pub live_to : ℕ → ℕ → List ℕ → ℕ
live_to zero s h = 0
live_to (suc n) s h = live_to n s h + one_if s n * (copies - get_or h n 0)
