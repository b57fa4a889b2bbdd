-- Every leaf of the walk is a target: each choice is laid meld by meld, and fits into four tiles of its rank.
-- Assumes nothing.
use mathlib.Core.Path.{◌≡◌, refl, sym, ap, ap₂, ◌∙◌}
use mathlib.Core.List.{List}
use Prim.Native.Nat.{ℕ, zero, suc, ◌+◌, ◌<◌}
use native.Mathlib.Nat.{le_refl}
use native.Mathlib.Omega.{arith}
use lib.ListN.{replicate}
use lib.Dec.{T}
use Rattle.tile.specs.Board.{Board}
use Rattle.tile.specs.Target.{Built, Target}
use Rattle.tile.specs.Target.Built.{nothing}
use Rattle.tile.proofs.Built.{lay, built_as}
use Rattle.tile.proofs.Built.Piece.{two, three, run}
use Rattle.walk.specs.Choice.{sequences_of, triplets_of, pairs_of}
use Rattle.walk.specs.Walk.{laid}
use Rattle.walk.proofs.Sane.{Sane, starts_there, holds_there, may_lay}
use Rattle.walk.proofs.Begun.{zeros_begun, begun_later, begun_few, laid_begun}
use Rattle.walk.specs.Begun.{Begun}
use Rattle.walk.specs.Leaf.{Leaf}
use Rattle.walk.proofs.Leaf.{of_fits}
use Rattle.walk.proofs.Spread.{spread, spread_none, spread_here, spread_add}
use Rattle.walk.proofs.Laid.{tiles_in}

-- ---- a choice, meld by meld

module _ {b : Board} (sane : Sane b) (i : ℕ) (l : i < b.kinds) {p m : ℕ} {t : List ℕ} where
  spread_built : (s q d : ℕ) → (0 < s → T (b.starts i)) → (0 < q + d → T (b.held i)) → Built b p m t
      → Built b (d + p) (s + q + m) (spread t i (tiles_in s q d) s)
  unfolding spread
  spread_built zero zero zero starting holding r = built_as r (omega arith) (omega arith) (sym (spread_none t i))
  spread_built zero zero (suc d) starting holding r =
      let h = holding (omega arith) in
      built_as (lay (two i) (l, h) (spread_built zero zero d starting (λ x. h) r)) (omega arith) (omega arith)
      (spread_here t i (tiles_in 0 0 d) 0 2 ∙ ap (λ (x : ℕ). spread t i x 0) (omega arith))
  spread_built zero (suc q) d starting holding r =
      let h = holding (omega arith) in
      built_as (lay (three i) (l, h) (spread_built zero q d starting (λ x. h) r)) (omega arith) (omega arith)
      (spread_here t i (tiles_in 0 q d) 0 3 ∙ ap (λ (x : ℕ). spread t i x 0) (omega arith))
  spread_built (suc s) q d starting holding r =
      let h = starting (omega arith) in
      built_as (lay (run i) (sane.inside i h, h) (spread_built s q d (λ x. h) holding r)) (omega arith) (omega arith)
      (spread_add t i (tiles_in s q d) s 1 1 ∙ ap₂ (spread t i) (omega arith) (omega arith))

-- ---- a leaf

module _ (b : Board) where
  module _ (sane : Sane b) where
    -- no count passes four on the way, and so none does at its end
    leaf_begun : (l i p m : ℕ) (t u : List ℕ) → i + l ≡ b.kinds → Begun b i t → Leaf b l i p m t u → Begun b (i + l) u
    unfolding Leaf
    leaf_begun zero i p m t u e g (x, y, z) = rw z (begun_later (i + 0) (omega arith) g)
    leaf_begun (suc l) i p m t u e g (c, o, (f, k)) =
        let later = laid_begun g c (may_lay b sane i c (omega arith) o) (of_fits p m t i c f).tiles in
        begun_later (i + suc l) (omega arith) (leaf_begun l (i + 1) _ _ _ u (omega arith) later k)

    leaf_built : (l i p m : ℕ) (t u : List ℕ) {n k : ℕ} → i + l ≡ b.kinds → Built b n k t → Leaf b l i p m t u → Built b (n + p) (k + m) u
    unfolding Leaf laid spread
    leaf_built zero i p m t u e r (x, y, z) = built_as r (omega arith) (omega arith) (sym z)
    leaf_built (suc l) i p m t u e r (c, o, (f, k)) =
        let fit = of_fits p m t i c f in
        let starting = starts_there (b.starts i) (b.held i) c o in
        let holding = holds_there (b.starts i) (b.held i) c (sane.first i) o in
        let here = spread_built sane i (omega arith) (sequences_of c) (triplets_of c) (pairs_of c) starting holding r in
        built_as (leaf_built l (i + 1) _ _ _ u (omega arith) here k) (omega arith) (omega arith) refl

    pub leaf_target : (p m : ℕ) (u : List ℕ) → Leaf b b.kinds 0 p m (replicate b.kinds 0) u → Target b p m u
    leaf_target p m u k =
        record {
          built = built_as (leaf_built b.kinds 0 p m _ u (omega arith) nothing k) (omega arith) (omega arith) refl;
          few = begun_few (leaf_begun b.kinds 0 p m _ u (omega arith) (zeros_begun b b.kinds (le_refl b.kinds)) k);
        }
