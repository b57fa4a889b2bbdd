-- The walk reads only the board's kinds: a longer target gives the same, so that one array of nine serves seven honours too.
-- A target is compared with its beginning, `take n t`: whatever the walk does to the one it does to the other, and it reads no further.
-- Assumes nothing.
use mathlib.Core.Path.{◌≡◌, refl, ap}
use mathlib.Core.Bool.{Bool}
use mathlib.Core.List.{List, [], ◌∷◌}
use Prim.Native.Nat.{ℕ, zero, suc, ◌+◌, ◌≤◌, ◌<◌}
use native.Mathlib.Nat.{le_refl}
use native.Mathlib.Omega.{arith}
use lib.ListN.{get_or, take, replicate}
use lib.Dec.{ltb}
use lib.Seq.{get_or-take}
use Rattle.tile.specs.Count.{more, lack_to, set_to, beyond_to}
use Rattle.tile.specs.Board.{Board}
use Rattle.tile.specs.Suit.{unfound}
use Rattle.tile.specs.declared.found.Found.{Found}
use Rattle.walk.specs.Walk.{laid, alone, join, tried, walk, searched}

-- ---- what is done to a target is done to its beginning

more_take : (n : ℕ) (t : List ℕ) (i c : ℕ) → take n (more t i c) ≡ more (take n t) i c
unfolding more
more_take zero t i c = refl
more_take (suc n) [] i c = refl
more_take (suc n) (x ∷ t) zero c = refl
more_take (suc n) (x ∷ t) (suc i) c = ap (λ (u : List ℕ). x ∷ u) (more_take n t i c)

laid_take : (n : ℕ) (t : List ℕ) (i c : ℕ) → take n (laid t i c) ≡ laid (take n t) i c
unfolding laid
laid_take n t i c = simp more_take

zeros_take : (n w : ℕ) → n ≤ w → take n (replicate w zero) ≡ replicate n zero
zeros_take zero w l = refl
zeros_take (suc n) zero l = absurd (omega arith)
zeros_take (suc n) (suc w) l = ap (λ (u : List ℕ). 0 ∷ u) (zeros_take n w (omega arith))

-- ---- what is read of a target stands in its beginning

module _ (n : ℕ) (h t : List ℕ) where
  lack_take : (k : ℕ) → k ≤ n → lack_to k (take n t) h ≡ lack_to k t h
  unfolding lack_to
  lack_take zero l = refl
  lack_take (suc k) l = rw (lack_take k (omega arith), get_or-take n t k 0)

  set_take : (f : ℕ → ℕ → Bool) (k : ℕ) → k ≤ n → set_to k (λ i. f i (get_or (take n t) i 0)) ≡ set_to k (λ i. f i (get_or t i 0))
  unfolding set_to
  set_take f zero l = refl
  set_take f (suc k) l = rw (set_take f k (omega arith), get_or-take n t k 0)

  -- both sets by one lemma: they differ in the test
  join_take : (r : Found) → join n h (take n t) r ≡ join n h t r
  unfolding join alone beyond_to
  join_take r = rw (lack_take n (le_refl n), set_take (λ i x. ltb (get_or h i 0) x) n (le_refl n), set_take (λ i x. ltb x (get_or h i 0)) n (le_refl n))

module _ (b : Board) (h : List ℕ) where
  -- so the walk over the beginning finds the same, by what each choice finds
  walk_take : (l i p m : ℕ) (t : List ℕ) (r : Found) → i + l ≡ b.kinds → walk b h l i p m (take b.kinds t) r ≡ walk b h l i p m t r
  unfolding walk tried
  walk_take zero i p m t r e = simp join_take
  walk_take (suc l) i p m t r e =
      let here : i < b.kinds = omega arith in
      let next : i + 1 + l ≡ b.kinds = omega arith in
      simp (tried, ← laid_take, lack_take, le_refl, get_or-take, walk_take l (i + 1))

  -- from an array of w zeros
  pub searched_longer : (w bound p m : ℕ) → b.kinds ≤ w → walk b h b.kinds 0 p m (replicate w 0) (unfound bound) ≡ searched b h bound p m
  unfolding searched
  searched_longer w bound p m l = let e : 0 + b.kinds ≡ b.kinds = omega arith in rw (← zeros_take b.kinds w, walk_take)
