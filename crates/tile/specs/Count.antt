-- Counts of tiles, and sets of kinds (01 "Tiles and games", "What a target is").
-- Counts are a list with one number for each kind; a kind past its end is held 0 times.
-- A set of kinds is a number: bit i stands for kind i.
-- Assumes nothing.
use Rattle.std.specs.Prelude.{◌≡◌, Bool, true, false, List, ℕ, zero, suc, ◌+◌, ◌-◌, ◌*◌, ◌/◌, ◌%◌, ◌^◌, ◌≤◌, get_or, set, ltb}

-- how many copies of a kind there are
abbrev pub copies : ℕ
copies = 4

-- at most so many of each kind
abbrev pub Few : List ℕ → Type 0
Few t = (i : ℕ) → get_or t i 0 ≤ copies

-- c more of kind i
unfoldable pub more : List ℕ → ℕ → ℕ → List ℕ
more t i c = set t i (get_or t i 0 + c)

-- how many tiles the first n kinds hold
unfoldable pub sum_to : ℕ → List ℕ → ℕ
sum_to zero t = 0
sum_to (suc n) t = sum_to n t + get_or t n 0

-- what the target t lacks against the hand h, over the first n kinds: target minus hand where that is positive
unfoldable pub lack_to : ℕ → List ℕ → List ℕ → ℕ
lack_to zero t h = 0
lack_to (suc n) t h = lack_to n t h + (get_or t n 0 - get_or h n 0)

-- 1 where kind i is in the set s, else 0
abbrev pub one_if : ℕ → ℕ → ℕ
one_if s i = (s / 2 ^ i) % 2

-- kind i is in the set s
unfoldable pub Has : ℕ → ℕ → Type 0
Has s i = one_if s i ≡ 1

unfoldable pub bit : Bool → ℕ
bit true = 1
bit false = 0

-- the set of the kinds below n that pass a test
unfoldable pub set_to : ℕ → (ℕ → Bool) → ℕ
set_to zero test = 0
set_to (suc n) test = set_to n test + bit (test n) * 2 ^ n

-- the set of the kinds below n of which t holds more than h
unfoldable pub beyond_to : ℕ → List ℕ → List ℕ → ℕ
beyond_to n t h = set_to n (λ i. ltb (get_or h i 0) (get_or t i 0))
