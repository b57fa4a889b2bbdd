-- The walk with its cuts adds exactly the ends of the walk without them to what was seen before: what is cut lacks more than was found.
-- Assumes nothing.
use mathlib.Core.Path.{refl, subst}
use mathlib.Core.Logic.{inl, inr, ⊎_elim, ⊎_map}
use mathlib.Core.Bool.{◌&&◌}
use mathlib.Core.List.{List}
use Prim.Native.Nat.{ℕ, zero, suc, ◌+◌, ◌-◌, ◌<◌}
use native.Mathlib.Nat.{eq-or-lt_of_le, le_of_suc-le-suc}
use native.Mathlib.Omega.{arith}
use lib.Dec.{T, leb, nleb→lt, eqb-suc-zero}
use Rattle.tile.specs.Count.{lack_to}
use Rattle.tile.specs.Board.{Board}
use Rattle.tile.specs.declared.found.Found.{Found}
use Rattle.tile.proofs.Tests.{by_test, and_first, and_fails}
use Rattle.tile.proofs.Counts.{Within, lack_within}
use Rattle.walk.specs.Choice.{pairs_of, melds_of}
use Rattle.walk.specs.Walk.{choices_at, fits, laid, up_to, tried, walk}
use Rattle.walk.specs.Leaf.{Leaf}
use Rattle.walk.proofs.Leaf.{leaf_grows}
use Rattle.tile.proofs.Answers.{Or}
use Rattle.walk.proofs.Best.{Best, best_same, best_skip, best_join}

module _ (n : ℕ) (h : List ℕ) (bound : ℕ) where
  -- f adds the targets of which L holds to whatever was seen before
  abbrev pub Adds : (List ℕ → Type 0) → (Found → Found) → Type 1
  Adds L f = (S : List ℕ → Type 0) (r : Found) → Best n h bound S r → Best n h bound (Or S L) (f r)

  -- one choice after the other adds what each of them adds
  up_to_adds : (f : ℕ → Found → Found) (L : ℕ → List ℕ → Type 0) → ((c : ℕ) → Adds (L c) (f c))
      → (k : ℕ) → Adds (λ u. (c : ℕ) × (c < k) × L c u) (up_to f k)
  unfolding up_to
  up_to_adds f L step zero S r o = best_skip (λ u (c, l, q). absurd (omega arith)) o
  up_to_adds f L step (suc k) S r o =
      best_same
      (λ u. ⊎_elim (⊎_map (λ s. s) (λ (c, l, q). (c, omega arith, q))) (λ q. inr (k, omega arith, q)))
      (λ u. ⊎_elim (λ s. inl (inl s))
      (λ (c, l, q). ⊎_elim (λ e. inr (subst (λ (x : ℕ). L x u) e q)) (λ under. inl (inr (c, under, q))) (eq-or-lt_of_le (le_of_suc-le-suc l))))
      (step k _ _ (up_to_adds f L step k S r o))

  -- one choice: where it is cut, all its targets lack more than was found
  tried_adds : (deeper : ℕ → ℕ → List ℕ → Found → Found) (L : ℕ → ℕ → List ℕ → List ℕ → Type 0)
      → ((p m : ℕ) (t u : List ℕ) → L p m t u → Within t u)
      → ((p m : ℕ) (t : List ℕ) → Adds (L p m t) (deeper p m t))
      → (i p m : ℕ) (t : List ℕ) (c : ℕ)
      → Adds (λ u. T (fits p m t i c) × L (p - pairs_of c) (m - melds_of c) (laid t i c) u) (tried n h deeper i p m t c)
  unfolding tried
  tried_adds deeper L grows step i p m t c S r o =
      let v = laid t i c in
      let fit = fits p m t i c in
      let near = leb (lack_to n v h) r.number in
      by_test (Best n h bound (Or S (λ u. T fit × L (p - pairs_of c) (m - melds_of c) v u))) (fit && near)
      (λ both. best_same (λ u. ⊎_map (λ s. s) (λ k. (and_first fit near both, k))) (λ u. ⊎_map (λ s. s) (λ (f, k). k)) (step _ _ v S r o))
      (λ fails. best_skip (λ u (f, k). let far = and_fails fit near fails f in omega (arith, nleb→lt, lack_within n v u h (grows _ _ v u k))) o)

module _ (b : Board) (h : List ℕ) (bound : ℕ) where
  -- the walk adds its ends: at each rank what its choices add, and at the end the target itself where the goal is met
  pub walk_adds : (l i p m : ℕ) (t : List ℕ) → Adds b.kinds h bound (Leaf b l i p m t) (walk b h l i p m t)
  unfolding Leaf walk
  walk_adds zero i zero zero t S r o = best_same (λ u. ⊎_map (λ s. s) (λ e. (refl, refl, e))) (λ u. ⊎_map (λ s. s) (λ (x, y, e). e)) (best_join t o)
  walk_adds zero i zero (suc m) t S r o = rw eqb-suc-zero (best_skip (λ u (x, y, e). absurd (omega arith)) o)
  walk_adds zero i (suc p) m t S r o = rw eqb-suc-zero (best_skip (λ u (x, y, e). absurd (omega arith)) o)
  walk_adds (suc l) i p m t S r o =
      up_to_adds b.kinds h bound _ _
      (tried_adds b.kinds h bound (walk b h l (i + 1)) (Leaf b l (i + 1)) (leaf_grows b l (i + 1)) (walk_adds l (i + 1)) i p m t)
      (choices_at b i) S r o
