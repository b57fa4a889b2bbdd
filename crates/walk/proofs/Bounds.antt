-- How little can be lacked at the end of a walk: a target has so many tiles, and those of the hand that it leaves at the ranks passed are of no use to it.
-- Assumes nothing.
use mathlib.Core.Path.{◌≡◌, ap}
use mathlib.Core.List.{List}
use Prim.Native.Nat.{ℕ, zero, suc, ◌+◌, ◌*◌, ◌≤◌}
use native.Mathlib.Omega.{arith}
use Rattle.tile.specs.Count.{sum_to, lack_to}
use Rattle.tile.specs.Board.{Board}
use Rattle.tile.proofs.Counts.{lack_both}
use Rattle.walk.specs.Leaf.{Leaf}
use Rattle.walk.proofs.Leaf.{of_fits}
use Rattle.walk.proofs.Sane.{Sane, may_lay}
use Rattle.walk.specs.Begun.{Begun}
use Rattle.walk.proofs.Begun.{laid_begun, laid_sum, beyond_passed}

module _ (b : Board) (sane : Sane b) (h : List ℕ) where
  -- all tiles of the target and those that the hand has beyond it at the ranks passed, less all that the hand holds, are lacked at least
  pub leaf_lack : (l i p m : ℕ) (t u : List ℕ) → i + l ≡ b.kinds → Begun b i t → Leaf b l i p m t u
      → sum_to b.kinds t + (3 * m + 2 * p) + lack_to i h t ≤ sum_to b.kinds h + lack_to b.kinds u h
  unfolding Leaf
  leaf_lack zero i p m t u e g (x, y, z) =
      let end : lack_to i h t ≡ lack_to b.kinds h t = ap (λ (k : ℕ). lack_to k h t) (omega arith) in
      rw z (omega (arith, lack_both b.kinds t h))
  leaf_lack (suc l) i p m t u e g (c, o, (f, k)) =
      let fit = of_fits p m t i c f in
      let lays = may_lay b sane i c (omega arith) o in
      omega (
        arith,
        leaf_lack l (i + 1) _ _ _ u (omega arith) (laid_begun g c lays fit.tiles) k,
        laid_sum g c lays fit.tiles,
        beyond_passed g c lays fit.tiles h,
      )
