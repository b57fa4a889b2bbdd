-- Which goals have a target: each kind that may be held has room for one pair or one triplet; where no sequence starts, for no more.
-- Assumes nothing.
use mathlib.Core.Path.{◌≡◌, refl}
use mathlib.Core.Bool.{Bool, true, false, cond}
use mathlib.Core.List.{List}
use Prim.Native.Nat.{ℕ, zero, suc, ◌+◌, ◌-◌, ◌≤◌, ◌<◌}
use native.Mathlib.Nat.{le_refl}
use native.Mathlib.Omega.{arith}
use lib.ListN.{get_or}
use lib.Dec.{T}
use Rattle.tile.specs.Count.{bit, more}
use Rattle.tile.specs.Board.{Board}
use Rattle.tile.proofs.Counts.{more_most, more_off}
use Rattle.tile.proofs.Sets.{bit_le}
use Rattle.walk.specs.Choice.{sequences_of, pairs_of, melds_of, tiles_of}
use Rattle.walk.specs.Walk.{tried_where, laid}
use Rattle.walk.proofs.Choice.{choice_flat}
use Rattle.walk.specs.Leaf.{Leaf}
use Rattle.walk.proofs.Leaf.{Fits, of_fits, to_fits}

-- how many of the l kinds from i on may be held
unfoldable pub held_in : Board → ℕ → ℕ → ℕ
held_in b zero i = 0
held_in b (suc l) i = bit (b.held i) + held_in b l (i + 1)

-- ---- enough room: a leaf

-- of the first n choices c is one without a sequence that fits, and what it leaves of p pairs and m melds goes into r kinds
record Flat (n r p m : ℕ) (t : List ℕ) (i c : ℕ) : Type 0 where
  tried : c < n
  flat : sequences_of c ≡ 0
  fit : Fits p m t i c
  left : p + m ≤ pairs_of c + melds_of c + r

flat_some : (held : Bool) (r p m : ℕ) (t : List ℕ) (i : ℕ) → p + m ≤ bit held + r → get_or t i 0 ≡ 0 → (c : ℕ) × Flat (cond held 3 1) r p m t i c
unfolding bit
flat_some false r p m t i h z = (0, omega arith)
flat_some true r zero zero t i h z = (0, omega arith)
flat_some true r zero (suc m) t i h z = (2, omega arith)
flat_some true r (suc p) m t i h z = (1, omega arith)

-- the choices without a sequence are tried anyway
flat_tried : (starts held : Bool) → cond held 3 1 ≤ tried_where starts held
flat_tried true true = omega arith
flat_tried true false = omega arith
flat_tried false held = le_refl (cond held 3 1)

-- and they leave the ranks after theirs as they are
flat_after : (t : List ℕ) (i c j : ℕ) → sequences_of c ≡ 0 → i < j → get_or (laid t i c) j 0 ≤ get_or t j 0
unfolding laid
flat_after t i c j e l =
    let v = more t i (tiles_of c) in
    let w = more v (i + 1) (sequences_of c) in
    omega (arith, more_off t i (tiles_of c) j (omega arith), more_most v (i + 1) (sequences_of c) j, more_most w (i + 2) (sequences_of c) j)

module _ (b : Board) where
  pub leaf_some : (l i p m : ℕ) (t : List ℕ) → p + m ≤ held_in b l i → ((j : ℕ) → i ≤ j → get_or t j 0 ≡ 0) → (u : List ℕ) × Leaf b l i p m t u
  unfolding held_in Leaf
  leaf_some zero i p m t h z = (t, (omega arith, omega arith, refl))
  leaf_some (suc l) i p m t h z =
      let (c, o) = flat_some (b.held i) (held_in b l (i + 1)) p m t i h (z i (le_refl i)) in
      let (u, k) = leaf_some l (i + 1) (p - pairs_of c) (m - melds_of c) (laid t i c) (omega arith)
      (λ j x. omega (arith, flat_after t i c j o.flat (omega arith), z j (omega arith))) in
      (u, (c, omega (arith, flat_tried (b.starts i) (b.held i)), (to_fits p m t i c o.fit, k)))

  -- ---- too little room: no leaf, where no sequence starts any more

  takes : (starts held : Bool) (c : ℕ) → (T starts → ⊥) → c < tried_where starts held → pairs_of c + melds_of c ≤ bit held
  takes true held c f l = absurd (f tt)
  takes false held c f l = (choice_flat held c l).1

  pub leaf_room : (l i p m : ℕ) (t u : List ℕ) → ((j : ℕ) → i ≤ j → T (b.starts j) → ⊥) → Leaf b l i p m t u → p + m ≤ held_in b l i
  unfolding held_in Leaf
  leaf_room zero i p m t u flat (x, y, z) = omega arith
  leaf_room (suc l) i p m t u flat (c, o, (f, k)) =
      omega (arith, takes (b.starts i) (b.held i) c (flat i (le_refl i)) o, of_fits p m t i c f, leaf_room l (i + 1) _ _ _ u (λ j x. flat j (omega arith)) k)

  -- there is no more room than there are ranks
  pub held_most : (l i : ℕ) → held_in b l i ≤ l
  unfolding held_in
  held_most zero i = omega arith
  held_most (suc l) i = omega (arith, held_most l (i + 1), bit_le (b.held i))
