-- When a suit or a hand is refused, and with which number (01 "Refusal numbers").
-- Assumes nothing.
use Rattle.std.specs.Prelude.{◌≡◌, ◌⊎◌, not, List, ℕ, ◌<◌, length, get_or, T, Result, Ok, Err}
use Rattle.tile.specs.Count.{copies, sum_to}
use Rattle.tile.specs.Board.{Board}
use Rattle.tile.specs.declared.refusal.Reason.{Reason}
use Rattle.tile.specs.declared.refusal.Reason.TheVariants.{Game, Goal, Length, Over, Sum, Barred}

-- 01's number of each reason
abbrev pub code_of : Reason → ℕ
code_of Game = 1
code_of Goal = 2
code_of Length = 3
code_of (Over i) = 4
code_of Sum = 5
code_of (Barred i) = 6

-- the index that comes back with it, 0 where none does
abbrev pub index_of : Reason → ℕ
index_of Game = 0
index_of Goal = 0
index_of Length = 0
index_of (Over i) = i
index_of Sum = 0
index_of (Barred i) = i

-- P holds of i and of no number below it
pub record Lowest (P : ℕ → Type 0) (i : ℕ) : Type 0 where
  pub holds : P i
  pub none_below : (j : ℕ) → j < i → P j → ⊥

-- the condition of r holds, and that of no reason with a smaller number does
pub record First (Fault : Reason → Type 0) (r : Reason) : Type 0 where
  pub holds : Fault r
  pub none_before : (q : Reason) → code_of q < code_of r → Fault q → ⊥

-- the condition of no reason holds
abbrev pub Faultless : (Reason → Type 0) → Type 0
Faultless Fault = (q : Reason) → Fault q → ⊥

-- what is promised of every entry: the first fault, or a value of which P holds where there is none
abbrev pub FirstFaultOr : {A : Type 0} → (Reason → Type 0) → (A → Type 0) → Result A Reason → Type 0
FirstFaultOr Fault P (Err q) = First Fault q
FirstFaultOr Fault P (Ok r) = Faultless Fault × P r

-- the most melds of a goal, and the most tiles of a hand, which is also the starting bound
abbrev pub most_melds : ℕ
most_melds = 4

abbrev pub most_tiles : ℕ
most_tiles = 14

-- the condition of each reason, for counts h on a board b, a suit's or a whole game's, and a goal of p pairs and m melds;
-- `unknown` says that there is no such game
abbrev pub Fault : Type 0 → Board → ℕ → ℕ → List ℕ → Reason → Type 0
Fault unknown b p m h Game = unknown
Fault unknown b p m h Goal = (most_melds < m) ⊎ (1 < p)
Fault unknown b p m h Length = length h ≡ b.kinds → ⊥
Fault unknown b p m h (Over i) = Lowest (λ j. copies < get_or h j 0) i
Fault unknown b p m h Sum = most_tiles < sum_to (length h) h
Fault unknown b p m h (Barred i) = Lowest (λ j. T (not (b.held j)) × (0 < get_or h j 0)) i

-- of a suit: it has no game
abbrev pub SuitFault : Board → ℕ → ℕ → List ℕ → Reason → Type 0
SuitFault b p m h q = Fault ⊥ b p m h q
