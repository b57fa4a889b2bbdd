-- What a check of lent counts finds.
-- Assumes nothing.
use Rattle.std.specs.Prelude.{ℕ, Option, Some, None, Result, Ok, Err}
use Rattle.tile.specs.Refusal.{Lowest, First, Faultless}
use Rattle.tile.specs.declared.refusal.Reason.{Reason}

-- the lowest index of which P holds, or that there is none
abbrev pub Finds : (ℕ → Type 0) → Option ℕ → Type 0
Finds P (Some i) = Lowest P i
Finds P None = (i : ℕ) → P i → ⊥

-- the first reason for a refusal, or that there is none
abbrev pub CheckedFor : (Reason → Type 0) → Result (Unit {0}) Reason → Type 0
CheckedFor Fault (Err q) = First Fault q
CheckedFor Fault (Ok done) = Faultless Fault
