-- What code may pass over: branches whose targets all lack more than was found, ranks at which nothing may be laid, and all ranks once nothing is left to lay.
-- Assumes nothing.
use mathlib.Core.Path.{◌≡◌, refl, sym, ap, ◌∙◌}
use mathlib.Core.Bool.{Bool, true, false, ◌&&◌}
use mathlib.Core.Logic.{⊎_elim}
use mathlib.Core.List.{List}
use Prim.Native.Nat.{ℕ, zero, suc, ◌+◌, ◌≤◌, ◌<◌}
use native.Mathlib.Nat.{zero-add, add-zero, sub-zero}
use native.Mathlib.Omega.{arith}
use lib.ListN.{get_or}
use lib.Dec.{leb, eqb-suc-zero}
use Rattle.tile.specs.Count.{copies, Few, lack_to}
use Rattle.tile.specs.Board.{Board}
use Rattle.tile.specs.declared.found.Found.{Found}
use Rattle.tile.proofs.Tests.{at_most_or_over, by_test, and_first}
use Rattle.tile.proofs.Counts.{lack_within}
use Rattle.walk.specs.Choice.{melds_of}
use Rattle.walk.specs.Walk.{tried_where, choices_at, fits, laid, up_to, join, tried, walk}
use Rattle.walk.proofs.Spread.{spread, spread_none}
use Rattle.walk.specs.Leaf.{Leaf}
use Rattle.walk.proofs.Leaf.{leaf_grows}
use Rattle.walk.proofs.Choice.{choice_lays}
use Rattle.walk.proofs.Steps.{join_more, over_melds, over_pairs, cut, entered}

-- ---- choices that change nothing

up_to_still : (f : ℕ → Found → Found) (k : ℕ) (r : Found) → ((c : ℕ) → c < k → f c r ≡ r) → up_to f k r ≡ r
unfolding up_to
up_to_still f zero r still = refl
up_to_still f (suc k) r still = ap (f k) (up_to_still f k r (λ c l. still c (omega arith))) ∙ still k (omega arith)

-- only the first of them counts where the others change nothing
up_to_first : (f : ℕ → Found → Found) (k : ℕ) (r : Found) → ((c : ℕ) (s : Found) → 0 < c → c < suc k → f c s ≡ s) → up_to f (suc k) r ≡ f 0 r
unfolding up_to
up_to_first f zero r still = refl
up_to_first f (suc k) r still = still (suc k) _ (omega arith) (omega arith) ∙ up_to_first f k r (λ c s o l. still c s o (omega arith))

-- of the eight choices, at least the empty one is tried
choices_some : (starts held : Bool) → (k : ℕ) × (k < 8) × (tried_where starts held ≡ suc k)
choices_some true held = (7, omega arith, refl)
choices_some false true = (2, omega arith, refl)
choices_some false false = (0, omega arith, refl)

-- and none of the others fits where nothing is left to lay
lays_nothing : (n : ℕ) (h : List ℕ) (deeper : ℕ → ℕ → List ℕ → Found → Found) (i : ℕ) (t : List ℕ) (c : ℕ) (r : Found)
    → 0 < c → c < 8 → tried n h deeper i 0 0 t c r ≡ r
lays_nothing n h deeper i t c r o l =
    ⊎_elim (λ flat. over_pairs n h deeper i 0 0 t c r flat (omega (arith, choice_lays c o l))) (over_melds n h deeper i 0 0 t c r)
    (at_most_or_over (melds_of c) 0)

module _ (b : Board) (h : List ℕ) where
  -- what leads only to targets that lack more changes nothing
  pub walk_skip : (l i p m : ℕ) (t : List ℕ) (r : Found) → ((u : List ℕ) → Leaf b l i p m t u → r.number < lack_to b.kinds u h) → walk b h l i p m t r ≡ r
  unfolding walk Leaf tried
  walk_skip zero i zero zero t r far = join_more b.kinds h t r (far t (refl, refl, refl))
  walk_skip zero i zero (suc m) t r far = rw eqb-suc-zero
  walk_skip zero i (suc p) m t r far = rw eqb-suc-zero
  walk_skip (suc l) i p m t r far =
      up_to_still (tried b.kinds h (walk b h l (i + 1)) i p m t) (choices_at b i) r
      (λ c o.
      let fit = fits p m t i c in
      let near = leb (lack_to b.kinds (laid t i c) h) r.number in
      by_test (λ x. x ≡ r) (fit && near)
      (λ both. walk_skip l (i + 1) _ _ _ r (λ u k. far u (c, o, (and_first fit near both, k))))
      (λ fails. refl))

  -- the empty choice lays nothing, and if it is cut, so is all that follows
  module _ (l i p m : ℕ) (t : List ℕ) (r : Found) (few : get_or t i 0 ≤ copies) where
    empty_choice : tried b.kinds h (walk b h l (i + 1)) i p m t 0 r ≡ walk b h l (i + 1) p m t r
    unfolding laid spread
    empty_choice =
        let deeper = walk b h l (i + 1) in
        let same : laid t i 0 ≡ t = spread_none t i in
        let lack = ap (λ (u : List ℕ). lack_to b.kinds u h) same in
        ⊎_elim
        (λ near. entered b.kinds h deeper i p m t 0 r (omega arith) (omega arith) (omega arith) (omega arith) ∙ rw (sub-zero p, sub-zero m, same))
        (λ far. cut b.kinds h deeper i p m t 0 r (omega arith) (omega arith) (omega arith) (omega arith)
        ∙ sym (walk_skip l (i + 1) p m t r (λ u k. omega (arith, lack_within b.kinds t u h (leaf_grows b l (i + 1) p m t u k)))))
        (at_most_or_over (lack_to b.kinds t h) r.number)

  -- a rank where nothing may be laid
  walk_next : (l i p m : ℕ) (t : List ℕ) (r : Found) → get_or t i 0 ≤ copies → choices_at b i ≡ 1 → walk b h (suc l) i p m t r ≡ walk b h l (i + 1) p m t r
  unfolding walk up_to
  walk_next l i p m t r few bare = rw bare (empty_choice l i p m t r few)

  -- k such ranks
  pub walk_past : (k l i p m : ℕ) (t : List ℕ) (r : Found) → Few t → ((j : ℕ) → i ≤ j → j < i + k → choices_at b j ≡ 1)
      → walk b h (k + l) i p m t r ≡ walk b h l (i + k) p m t r
  walk_past zero l i p m t r few bare = rw (zero-add, add-zero)
  walk_past (suc k) l i p m t r few bare =
      let e : i + 1 + k ≡ i + suc k = omega arith in
      let left : suc k + l ≡ suc (k + l) = omega arith in
      ap (λ (x : ℕ). walk b h x i p m t r) left
      ∙ walk_next (k + l) i p m t r (few i) (bare i (omega arith) (omega arith))
      ∙ walk_past k l (i + 1) p m t r few (λ j x y. bare j (omega arith) (omega arith)) ∙ rw e

  -- with nothing left to lay the target is whole, whatever ranks are to come
  pub walk_done : (l i : ℕ) (t : List ℕ) (r : Found) → Few t → walk b h l i 0 0 t r ≡ join b.kinds h t r
  unfolding walk
  walk_done zero i t r few = refl
  walk_done (suc l) i t r few =
      let (k, o, e) = choices_some (b.starts i) (b.held i) in
      rw e
      (up_to_first (tried b.kinds h (walk b h l (i + 1)) i 0 0 t) k r (λ c s x y. lays_nothing b.kinds h (walk b h l (i + 1)) i t c s x (omega arith))
      ∙ empty_choice l i 0 0 t r (few i) ∙ walk_done l (i + 1) t r few)
