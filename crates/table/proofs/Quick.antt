-- The cell of the first rank is right: what can be made from there on are the ends of the walk (Leaf), and those are the targets.
-- Assumes nothing.
use mathlib.Core.Path.{◌≡◌, refl, sym, ap, ◌∙◌}
use mathlib.Core.Logic.{⊎_elim}
use mathlib.Core.List.{List, [], ◌∷◌, ◌++◌, append_assoc}
use Prim.Native.Nat.{ℕ, zero, suc, ◌+◌, ◌*◌, ◌≤◌, ◌<◌}
use native.Mathlib.Nat.{zero-add}
use native.Mathlib.Omega.{arith}
use lib.ListN.{length, get_or, replicate, length-append}
use lib.Seq.{get_or_at}
use borrow.Author.Tests.{lt-ltb, le-ltb}
use Rattle.tile.specs.Count.{more}
use Rattle.tile.specs.Board.{Board, ranks, honours, ends}
use Rattle.tile.specs.Target.{Target}
use Rattle.tile.specs.Suit.{unfound, Right}
use Rattle.tile.specs.Suit.Right.{answer, no_target}
use Rattle.tile.specs.declared.found.Found.{Found}
use Rattle.tile.proofs.Tests.{at_most_or_over}
use Rattle.tile.proofs.Counts.{lack_few}
use Rattle.tile.proofs.Append.{more_right}
use Rattle.tile.proofs.Suit.{right_once}
use Rattle.walk.specs.Choice.{sequences_of, tiles_of}
use Rattle.walk.specs.Walk.{fits, laid, searched}
use Rattle.walk.specs.Leaf.{Leaf}
use Rattle.walk.proofs.Sane.{Sane}
use Rattle.walk.proofs.Sound.{leaf_target}
use Rattle.walk.proofs.Complete.{target_leaf}
use Rattle.walk.proofs.Right.{sane_ranks, sane_honours, sane_ends, ranks_right, honours_right, ends_right}
use Rattle.table.specs.Cell.{none, tiles_with, fits_with, cell, result, quick}
use Rattle.table.proofs.Good.{Good, good_same}
use Rattle.table.proofs.Cell.{Tail, good_cell}

-- ---- what is given out

result_some : (bound : ℕ) (r : Found) → r.number < none → result bound r ≡ r
unfolding result
result_some bound r l = rw (lt-ltb r.number none l)

result_none : (bound : ℕ) (r : Found) → none ≤ r.number → result bound r ≡ unfound bound
unfolding result
result_none bound r l = rw (le-ltb r.number none l)

-- ---- a state as counts

-- what the sequences that run into l ranks have laid there
unfoldable ahead : ℕ → ℕ → ℕ → List ℕ
ahead zero near far = []
ahead (suc zero) near far = (far + near) ∷ []
ahead (suc (suc l)) near far = (far + near) ∷ near ∷ replicate l 0

ahead_none : (l : ℕ) → ahead l 0 0 ≡ replicate l 0
unfolding ahead
ahead_none zero = refl
ahead_none (suc zero) = refl
ahead_none (suc (suc l)) = refl

ahead_first : (v : List ℕ) (l near far i : ℕ) → length v ≡ i → get_or (v ++ ahead (suc l) near far) i 0 ≡ far + near
unfolding ahead
ahead_first v zero near far i n = get_or_at v (far + near) [] 0 i n
ahead_first v (suc l) near far i n = get_or_at v (far + near) (near ∷ replicate l 0) 0 i n

-- a choice laid there fixes the first rank, and is the state of the ranks after it
ahead_laid : (l near far c : ℕ) → laid (ahead (suc l) near far) 0 c ≡ tiles_with near far c ∷ ahead l (sequences_of c) near
unfolding laid more ahead
ahead_laid zero near far c = refl
ahead_laid (suc zero) near far c = refl
ahead_laid (suc (suc l)) near far c = ap (λ (x : ℕ). tiles_with near far c ∷ (near + sequences_of c) ∷ x ∷ replicate l 0) (zero-add (sequences_of c))

-- a choice laid after the ranks v leaves them as they are
laid_after : (v w : List ℕ) (i c : ℕ) → length v ≡ i → laid (v ++ w) i c ≡ v ++ laid w 0 c
unfolding laid
laid_after v w i c e =
    let x = tiles_of c in
    let s = sequences_of c in
    ap (λ (t : List ℕ). more (more t (i + 1) s) (i + 2) s) (more_right v w i 0 x (omega arith))
    ∙ ap (λ (t : List ℕ). more t (i + 2) s) (more_right v (more w 0 x) (i + 1) 1 s (omega arith))
    ∙ more_right v (more (more w 0 x) 1 s) (i + 2) 2 s (omega arith)

-- ---- tails are the ends of the walk, after the ranks passed

-- one rank more is passed
module _ (v : List ℕ) (l i near far c : ℕ) (n : length v ≡ i) where
  placed : laid (v ++ ahead (suc l) near far) i c ≡ (v ++ (tiles_with near far c ∷ [])) ++ ahead l (sequences_of c) near
  placed =
      laid_after v (ahead (suc l) near far) i c n ∙ ap (λ (t : List ℕ). v ++ t) (ahead_laid l near far c)
      ∙ sym (append_assoc v (tiles_with near far c ∷ []) (ahead l (sequences_of c) near))

  same_fit : (p m : ℕ) → fits p m (v ++ ahead (suc l) near far) i c ≡ fits_with near far p m c
  same_fit p m = rw (ahead_first v l near far i n)

  longer : length (v ++ (tiles_with near far c ∷ [])) ≡ i + 1
  longer = length-append v (tiles_with near far c ∷ []) ∙ omega arith

module _ (b : Board) where
  leaf_tail : (l i near far p m : ℕ) (v u : List ℕ) → length v ≡ i → Leaf b l i p m (v ++ ahead l near far) u
      → (w : List ℕ) × (u ≡ v ++ w) × Tail b l i near far p m w
  unfolding Leaf Tail ahead
  leaf_tail zero i near far p m v u n (x, y, z) = ([], z, (x, y, refl))
  leaf_tail (suc l) i near far p m v u n (c, o, (f, k)) =
      let x = tiles_with near far c in
      let (w, e, t) = leaf_tail l (i + 1) (sequences_of c) near _ _ (v ++ (x ∷ [])) u (longer v l i near far c n) (rw (placed v l i near far c n) at k) in
      (x ∷ w, e ∙ append_assoc v (x ∷ []) w, (c, o, (rw (same_fit v l i near far c n p m) at f, (w, refl, t))))

  tail_leaf : (l i near far p m : ℕ) (v w : List ℕ) → length v ≡ i → Tail b l i near far p m w → Leaf b l i p m (v ++ ahead l near far) (v ++ w)
  unfolding Leaf Tail ahead
  tail_leaf zero i near far p m v w n (x, y, z) = (x, y, ap (λ (t : List ℕ). v ++ t) z)
  tail_leaf (suc l) i near far p m v w n (c, o, (f, (u, e, k))) =
      let x = tiles_with near far c in (
        c,
        o,
        (
          rw (same_fit v l i near far c n p m) f,
          rw (placed v l i near far c n, e, ← append_assoc v (x ∷ []) u)
              (tail_leaf l (i + 1) (sequences_of c) near _ _ (v ++ (x ∷ [])) u (longer v l i near far c n) k),
        ),
      )

  -- ---- the whole suit

  module _ (sane : Sane b) (h : List ℕ) (whole : length h ≡ b.kinds) (p m : ℕ) (one : p ≤ 1) where
    good_first : Good b.kinds h (Target b p m) (cell b h 0 0 0 p m)
    good_first =
        good_same (λ t k. leaf_target b sane p m t (rw ahead_none at (tail_leaf b.kinds 0 0 0 p m [] t refl k)))
        (λ t tg. let (w, e, k) = leaf_tail b.kinds 0 0 0 p m [] t refl (rw ahead_none (target_leaf b sane p m t one tg)) in rw e k)
        (rw whole at (good_cell b h 0 0 0 p m))

    -- no target of so few kinds lacks as many as `none`
    pub quick_right : b.kinds < 16 → (bound : ℕ) → Right b bound p m h (quick b h bound p m)
    unfolding quick
    quick_right few bound =
        let r = cell b h 0 0 0 p m in
        ⊎_elim
        (λ over. no_target (λ t tg. omega (arith, good_first.none_fewer t tg, lack_few b.kinds t h tg.few)) (result_none bound r over))
        (λ under. rw (result_some bound r under) (answer (good_first.right under))) (at_most_or_over none r.number)

-- ---- it is what the search finds

module _ (h : List ℕ) (bound p m : ℕ) (one : p ≤ 1) (five : m ≤ 5) (within : 3 * m + 2 * p ≤ bound) where
  pub ranks_quick : length h ≡ 9 → quick ranks h bound p m ≡ searched ranks h bound p m
  ranks_quick n = right_once (quick_right ranks sane_ranks h n p m one (omega arith) bound) (ranks_right p m h bound one five within)

  pub honours_quick : length h ≡ 7 → quick honours h bound p m ≡ searched honours h bound p m
  honours_quick n = right_once (quick_right honours sane_honours h n p m one (omega arith) bound) (honours_right p m h bound one five within)

  pub ends_quick : length h ≡ 9 → quick ends h bound p m ≡ searched ends h bound p m
  ends_quick n = right_once (quick_right ends sane_ends h n p m one (omega arith) bound) (ends_right p m h bound one five within)
