-- Every target is a leaf of the walk: taken rank by rank, what is laid at each rank is one of the choices.
-- Assumes nothing.
use mathlib.Core.Path.{◌≡◌, ap₂, sym, subst, subst₃, ◌∙◌}
use mathlib.Core.Logic.{⊎_elim}
use mathlib.Core.Bool.{Bool, true, false}
use mathlib.Core.List.{List}
use Prim.Native.Nat.{ℕ, zero, suc, ◌+◌, ◌-◌, ◌≤◌, ◌<◌}
use native.Mathlib.Nat.{le_refl}
use native.Mathlib.Omega.{arith}
use lib.ListN.{length, get_or, replicate, length-replicate}
use lib.Dec.{T}
use Rattle.tile.specs.Count.{copies, Few}
use Rattle.tile.specs.Board.{Board}
use Rattle.tile.specs.Target.{Target}
use Rattle.tile.proofs.Tests.{at_most_or_over}
use Rattle.tile.proofs.Counts.{more_at}
use Rattle.walk.specs.Walk.{tried_where, laid}
use Rattle.walk.proofs.Choice.{choice_for, no_choice_missing}
use Rattle.walk.specs.Leaf.{Leaf}
use Rattle.walk.proofs.Leaf.{to_fits}
use Rattle.walk.proofs.Spread.{spread, spread_after, spread_before, spread_length}
use Rattle.walk.proofs.Laid.{Part, tiles_in, Laying, First, laying_within, in_order, alike, built_laid}
use Rattle.walk.proofs.Laid.Laying.{done, next}
use Rattle.walk.proofs.Laid.First.{first}
use Rattle.walk.proofs.Sane.{Sane}

-- what may be laid at a rank is tried there
among : (starts held : Bool) (s q d : ℕ) → s ≤ 2 → tiles_in s q d ≤ copies → (0 < s → T starts) → (0 < q + d → T held)
    → choice_for s q d < tried_where starts held
among true held s q d two four starting holding = omega arith
among false true s q d two four starting holding = omega arith
among false false s q d two four starting holding = omega arith

module _ (b : Board) (sane : Sane b) (u : List ℕ) (few : Few u) where
  -- past the last rank nothing is left to be laid
  ended : {i p m : ℕ} {t : List ℕ} → b.kinds ≤ i → Laying b i u p m t → (p ≡ 0) × (m ≡ 0) × (u ≡ t)
  ended n (done x y e) = (x, y, e)
  ended n (next j s q d p' m' l k o r) = absurd (omega arith)

  -- at rank i, with the same shown for the ranks after it
  module _ (l i p m : ℕ) (t : List ℕ) (e : i + suc l ≡ b.kinds) (n : length t ≡ b.kinds) (one : p ≤ 1)
      (deeper : (p m : ℕ) (t : List ℕ) → length t ≡ b.kinds → p ≤ 1 → Laying b (i + 1) u p m t → Leaf b l (i + 1) p m t u) where
    -- the target holds at most four tiles of the rank, so what is laid there goes into four
    four : {p m : ℕ} (x s : ℕ) → Laying b (i + 1) u p m (spread t i x s) → get_or t i 0 + x ≤ copies
    four x s r = omega (arith, spread_before t i x s i (le_refl i), more_at t i x (omega arith), laying_within r i, few i)

    -- with at most two sequences it is one of the choices
    chosen : (s q d p' m' : ℕ) → s ≤ 2 → Part b i s q d p m p' m' → Laying b (i + 1) u p' m' (spread t i (tiles_in s q d) s) → Leaf b (suc l) i p m t u
    unfolding Leaf laid spread
    chosen s q d p' m' two o r =
        let tiles = four (tiles_in s q d) s r in
        let has = no_choice_missing s q d two (omega arith) (omega arith) in
        let rest = deeper p' m' _ (spread_length t i (tiles_in s q d) s ∙ n) (omega arith) r in
        let c = choice_for s q d in (
          c,
          among (b.starts i) (b.held i) s q d two (omega arith) o.starting o.holding,
          (
            to_fits p m t i c (omega arith),
            subst₃ (λ (p m : ℕ) (t : List ℕ). Leaf b l (i + 1) p m t u) (omega arith) (omega arith)
                (ap₂ (spread t i) (sym has.its_tiles) (sym has.its_sequences)) rest,
          ),
        )

    -- No choice has three sequences, and no target is lost by that: three equal sequences are the same tiles as three triplets,
    -- one of each of their kinds. So of three or four sequences three are taken away here, one triplet more is laid here,
    -- and the other two triplets are left for the two ranks after this one. Four tiles of a rank hold at most four sequences, so once is enough.
    traded : (s q d p' m' : ℕ) → 2 < s → Part b i s q d p m p' m' → Laying b (i + 1) u p' m' (spread t i (tiles_in s q d) s) → Leaf b (suc l) i p m t u
    traded s q d p' m' many o r =
        let starts = o.starting (omega arith) in
        let inside = sane.inside i starts in
        let tiles = four (tiles_in s q d) s r in
        chosen (s - 3) (1 + q) d (0 + (0 + p')) (1 + (1 + m')) (omega arith)
        (record { pairs_left = omega arith; melds_left = omega arith; starting = λ x. starts; holding = λ x. sane.first i starts })
        (alike (i + 1) 1 0 (omega arith) (omega arith) (sane.second i starts)
        (alike (i + 2) 1 0 (omega arith) inside (sane.third i starts)
        (subst (Laying b (i + 1) u p' m') (ap₂ (spread t i) (omega arith) (omega arith) ∙ sym (spread_after t i (tiles_in (s - 3) (1 + q) d) (s - 3) 3)) r)))

    at_rank_lem : First b i u p m t → Leaf b (suc l) i p m t u
    at_rank_lem (first s q d p' m' o r) = ⊎_elim (λ two. chosen s q d p' m' two o r) (λ many. traded s q d p' m' many o r) (at_most_or_over s 2)

  laid_leaf : (l i p m : ℕ) (t : List ℕ) → i + l ≡ b.kinds → length t ≡ b.kinds → p ≤ 1 → Laying b i u p m t → Leaf b l i p m t u
  unfolding Leaf
  laid_leaf zero i p m t e n one r = ended (omega arith) r
  laid_leaf (suc l) i p m t e n one r = at_rank_lem l i p m t e n one (λ p m t. laid_leaf l (i + 1) p m t (omega arith)) (in_order r)

module _ (b : Board) (sane : Sane b) where
  pub target_leaf : (p m : ℕ) (u : List ℕ) → p ≤ 1 → Target b p m u → Leaf b b.kinds 0 p m (replicate b.kinds 0) u
  target_leaf p m u one tg =
      laid_leaf b sane u tg.few b.kinds 0 p m _ (omega arith) (length-replicate b.kinds 0) one (built_laid tg.built)
