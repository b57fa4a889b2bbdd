-- A check leaves one result.
-- Assumes nothing.
use mathlib.Core.Path.{◌≡◌, refl, ap}
use mathlib.Core.List.{List}
use Prim.Native.Nat.{ℕ}
use Rattle.std.specs.Prelude.{Result, Ok, Err}
use Rattle.tile.specs.Board.{Board}
use Rattle.tile.specs.Refusal.{Fault}
use Rattle.tile.specs.declared.refusal.Reason.{Reason}
use Rattle.tile.proofs.Promise.{fault_once}
use Rattle.checks.specs.Checked.{CheckedFor}

-- two results of a check coincide
pub checked_once : (unknown : Type 0) (b : Board) (p m : ℕ) (h : List ℕ) (c d : Result (Unit {0}) Reason) → CheckedFor (Fault unknown b p m h) c
    → CheckedFor (Fault unknown b p m h) d → c ≡ d
checked_once unknown b p m h (Ok done) (Ok again) x y = refl
checked_once unknown b p m h (Ok done) (Err q) x y = absurd (x q y.holds)
checked_once unknown b p m h (Err q) (Ok done) x y = absurd (y q x.holds)
checked_once unknown b p m h (Err q) (Err r) x y = ap Err (fault_once unknown b p m h q r x y)
