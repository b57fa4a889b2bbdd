-- A target taken rank by rank: pairs and melds may be laid in any order, and so all those from the first rank first.
-- Assumes nothing.
use mathlib.Core.Path.{◌≡◌, refl, sym, ap, subst, subst₂, ◌∙◌}
use mathlib.Core.Logic.{◌⊎◌, inl, inr}
use mathlib.Core.List.{List}
use Prim.Native.Nat.{ℕ, zero, suc, ◌+◌, ◌*◌, ◌≤◌, ◌<◌}
use native.Mathlib.Nat.{le_refl, eq-or-lt_of_le}
use native.Mathlib.Omega.{arith}
use lib.ListN.{get_or, replicate}
use lib.Dec.{T}
use Rattle.tile.specs.Count.{more}
use Rattle.tile.specs.Board.{Board}
use Rattle.tile.specs.Target.{Built}
use Rattle.tile.specs.Target.Built.{nothing, pair, triplet, sequence}
use Rattle.tile.proofs.Counts.{Within}
use Rattle.walk.proofs.Spread.{spread, spread_swap, spread_add, spread_flat, spread_none, spread_within}

-- s sequences that start at rank i, and q triplets and d pairs of it, may be laid; of p pairs and m melds they leave p' and m'
pub record Part (b : Board) (i s q d p m p' m' : ℕ) : Type 0 where
  pub pairs_left : d + p' ≡ p
  pub melds_left : s + q + m' ≡ m
  pub starting : 0 < s → T (b.starts i)
  pub holding : 0 < q + d → T (b.held i)

-- the tiles of them at rank i itself
abbrev pub tiles_in : ℕ → ℕ → ℕ → ℕ
tiles_in s q d = s + 3 * q + 2 * d

-- u is t with p pairs and m melds laid on it in any order, none of them from a rank before i
pub data Laying (b : Board) (i : ℕ) (u : List ℕ) : ℕ → ℕ → List ℕ → Type 0 where
  done : {p m : ℕ} {t : List ℕ} → p ≡ 0 → m ≡ 0 → u ≡ t → Laying b i u p m t
  next : {p m : ℕ} {t : List ℕ} (j s q d p' m' : ℕ) → i ≤ j → j < b.kinds → Part b j s q d p m p' m'
      → Laying b i u p' m' (spread t j (tiles_in s q d) s) → Laying b i u p m t

-- the same, where all that is from rank i is laid first
pub data First (b : Board) (i : ℕ) (u : List ℕ) (p m : ℕ) (t : List ℕ) : Type 0 where
  first : (s q d p' m' : ℕ) → Part b i s q d p m p' m' → Laying b (i + 1) u p' m' (spread t i (tiles_in s q d) s) → First b i u p m t

either_holds : {X : Type 0} (a c : ℕ) → (0 < a → X) → (0 < c → X) → 0 < a + c → X
either_holds zero c f g l = g (omega arith)
either_holds (suc a) c f g l = f (omega arith)

module _ {b : Board} {u : List ℕ} where
  pub laying_within : {i p m : ℕ} {t : List ℕ} → Laying b i u p m t → Within t u
  laying_within {t = t} (done x y e) j = rw e (le_refl (get_or t j 0))
  laying_within {t = t} (next i s q d p' m' l k o r) j = omega (arith, spread_within t i (tiles_in s q d) s j, laying_within r j)

  -- piece by piece: what is from rank i joins the others from rank i, what is from a later rank waits
  pub in_order : {i p m : ℕ} {t : List ℕ} → Laying b i u p m t → First b i u p m t
  in_order {i} {p} {m} {t} (done x y e) =
      first 0 0 0 p m
      (record { pairs_left = omega arith; melds_left = omega arith; starting = λ l. absurd (omega arith); holding = λ l. absurd (omega arith) })
      (done x y (e ∙ sym (spread_none t i)))
  in_order {i} {p} {m} {t} (next j s q d p' m' l k o r) = go (in_order r) (eq-or-lt_of_le l)
    where
      go : First b i u p' m' (spread t j (tiles_in s q d) s) → (i ≡ j) ⊎ (i < j) → First b i u p m t
      go (first s'' q'' d'' p'' m'' o'' r'') (inl e) =
          first (s + s'') (q + q'') (d + d'') p'' m''
          (record {
            pairs_left = omega arith;
            melds_left = omega arith;
            starting = either_holds s s'' (rw e o.starting) o''.starting;
            holding = λ x. either_holds (q + d) (q'' + d'') (rw e o.holding) o''.holding (omega arith);
          })
          (subst (Laying b (i + 1) u p'' m'')
          (ap (λ (x : ℕ). spread (spread t x (tiles_in s q d) s) i (tiles_in s'' q'' d'') s'') (sym e)
          ∙ spread_add t i (tiles_in s q d) s (tiles_in s'' q'' d'') s'' ∙ ap (λ (x : ℕ). spread t i x (s + s'')) (omega arith)) r'')
      go (first s'' q'' d'' p'' m'' o'' r'') (inr e) =
          first s'' q'' d'' (d + p'') (s + q + m'')
          (record { pairs_left = omega arith; melds_left = omega arith; starting = o''.starting; holding = o''.holding })
          (next j s q d p'' m'' (omega arith) k (record { pairs_left = refl; melds_left = refl; starting = o.starting; holding = o.holding })
          (subst (Laying b (i + 1) u p'' m'') (spread_swap t j (tiles_in s q d) s i (tiles_in s'' q'' d'') s'') r''))

  -- triplets and pairs of one kind
  pub alike : {i p m : ℕ} {t : List ℕ} (j q d : ℕ) → i ≤ j → j < b.kinds → T (b.held j)
      → Laying b i u p m (more t j (tiles_in 0 q d)) → Laying b i u (d + p) (q + m) t
  alike {i} {p} {m} {t} j q d l k h r =
      next {m = q + m} j 0 q d p m l k (record { pairs_left = refl; melds_left = omega arith; starting = λ x. absurd (omega arith); holding = λ x. h })
      (subst (Laying b i u p m) (sym (spread_flat t j (tiles_in 0 q d))) r)

  -- what is laid on a sum of melds and pairs is laid on nothing, after the pieces of the sum; so every sum can be laid rank by rank
  built_on : (n k : ℕ) {p m : ℕ} {t : List ℕ} → Built b p m t
      → (p' m' : ℕ) → p + p' ≡ n → m + m' ≡ k → Laying b 0 u p' m' t → Laying b 0 u n k (replicate b.kinds 0)
  unfolding spread
  built_on n k nothing p' m' x y r = subst₂ (λ (p m : ℕ). Laying b 0 u p m (replicate b.kinds 0)) (omega arith) (omega arith) r
  built_on n k (pair i l h o) p' m' x y r = built_on n k o (1 + p') (0 + m') (omega arith) (omega arith) (alike i 0 1 (omega arith) l h r)
  built_on n k (triplet i l h o) p' m' x y r = built_on n k o (0 + p') (1 + m') (omega arith) (omega arith) (alike i 1 0 (omega arith) l h r)
  built_on n k (sequence i l h o) p' m' x y r =
      built_on n k o (0 + p') (1 + 0 + m') (omega arith) (omega arith)
      (next i 1 0 0 p' m' (omega arith) (omega arith)
      (record { pairs_left = refl; melds_left = refl; starting = λ x. h; holding = λ x. absurd (omega arith) }) r)

  pub built_laid : {p m : ℕ} → Built b p m u → Laying b 0 u p m (replicate b.kinds 0)
  built_laid {p} {m} r = built_on p m r 0 0 (omega arith) (omega arith) (done refl refl refl)
