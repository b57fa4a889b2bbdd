-- The sum of counts: nine counts of at most four stay within a byte.
-- Assumes nothing.
use mathlib.Core.Path.{◌≡◌, refl}
use mathlib.Core.List.{List}
use Prim.Native.Nat.{ℕ, ◌+◌, ◌≤◌, ◌<◌, min}
use native.Mathlib.Omega.{arith}
use native.Mathlib.Numerals.{add-one}
use lib.ListN.{length, get_or}
use Rattle.tile.specs.Count.{Few, sum_to}
use Rattle.tile.proofs.Counts.{sum_few, sum_further}

pub known_total : (h : List ℕ) → Few h → length h ≤ 9 → min (sum_to (length h) h) 255 ≡ sum_to (length h) h
known_total h few nine = omega (arith, sum_few (length h) h few)

-- the sum, kind by kind
pub sum_none : (h : List ℕ) → sum_to 0 h ≡ 0
unfolding sum_to
sum_none h = refl

pub sum_more : (n : ℕ) (h : List ℕ) → sum_to (n + 1) h ≡ sum_to n h + get_or h n 0
unfolding sum_to
sum_more n h = rw add-one

-- where one more would pass a byte, the whole sum does
pub sum_over : (n s : ℕ) (h : List ℕ) → s ≡ min (sum_to n h) 255 → n < length h → 255 < s + get_or h n 0 → 255 ≡ min (sum_to (length h) h) 255
sum_over n s h so_far room over =
    let more : sum_to (n + 1) h ≡ sum_to n h + get_or h n 0 = sum_more n h in
    omega (arith, sum_further (n + 1) (length h) h (omega arith))
