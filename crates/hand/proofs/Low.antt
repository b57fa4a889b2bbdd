-- The goals of the suits of a hand are low enough to be merged in words.
-- Assumes nothing.
use mathlib.Core.Bool.{Bool}
use mathlib.Core.List.{List}
use Prim.Native.Nat.{ℕ}
use native.Mathlib.Omega.{arith}
use Rattle.tile.specs.declared.found.Found.{Found}
use Rattle.hand.specs.Entry.{AllLow}
use Rattle.hand.proofs.Entries.{suit_low}
use Rattle.hand.proofs.Cut.{AllSuits, m_kinds}

pub suits_low : {three_player : Bool} {h : List ℕ} {m p s z : List Found} → AllSuits three_player h m p s z → AllLow m p s z
suits_low {three_player} all =
    record {
      in_m = suit_low (omega (arith, m_kinds three_player)) all.in_m;
      in_p = suit_low (omega arith) all.in_p;
      in_s = suit_low (omega arith) all.in_s;
      in_z = suit_low (omega arith) all.in_z;
    }
