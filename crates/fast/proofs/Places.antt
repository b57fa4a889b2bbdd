-- What stands where in the array of a rank: the rows at their places, and `over` beside them.
-- Assumes nothing.
use mathlib.Core.Path.{◌≡◌, ◌∙◌}
use mathlib.Core.Logic.{◌⊎◌, inl, inr, ⊎_elim}
use mathlib.Core.List.{List, ◌∷◌}
use Prim.Native.Nat.{ℕ, zero, suc, ◌+◌, ◌*◌, ◌≤◌, ◌<◌}
use native.Mathlib.Decide.{ℕ_discrete}
use native.Mathlib.Omega.{arith}
use lib.ListN.{length, get_or, set, replicate, length-set, length-replicate, get_or-replicate, get_or-eq_default}
use lib.Seq.{get_or-set_same, get_or-set_other, set_out}
use Rattle.tile.proofs.Tests.{at_most_or_over}
use Rattle.fast.specs.Word.{over}
use Rattle.fast.specs.Row.{Low, wide, stride, row_place}
use Rattle.fast.specs.Fill.{laid_row, pair_rows, far_rows, near_rows, long, filled}
use Rattle.fast.proofs.Turns.{laid_keeps, pairs_keep, fars_keep}
use Rattle.fast.proofs.Fold.{Leaves, Writes, all_keep, all_leave, one_writes}

-- ---- small words

set_low : (cells : List ℕ) (i v : ℕ) → Low cells → v < 67108864 → Low (set cells i v)
set_low cells i v o l = record { most = λ j. at j (ℕ_discrete j i) (at_most_or_over (length cells) i) }
  where
    at : (j : ℕ) → Dec (j ≡ i) → (length cells ≤ i) ⊎ (i < length cells) → get_or (set cells i v) j 0 < 67108864
    at j (no other) w = rw (get_or-set_other cells i j v 0 other) (o.most j)
    at j (yes e) (inl out) = rw (set_out cells i v out) (o.most j)
    at j (yes e) (inr inside) = rw (e, get_or-set_same cells i v 0 inside) l

pub replicate_low : (n v : ℕ) → v < 67108864 → Low (replicate n v)
replicate_low n v l =
    record {
      most = λ j.
          ⊎_elim (λ out. omega (arith, get_or-eq_default (replicate n v) 0 (out_of j out))) (λ inside. rw (get_or-replicate n j v 0 inside) l)
          (at_most_or_over n j);
    }
  where
    out_of : (j : ℕ) → n ≤ j → length (replicate n v) ≤ j
    out_of j out = rw (length-replicate n v) out

pub cons_low : (v : ℕ) (cells : List ℕ) → v < 67108864 → Low cells → Low (v ∷ cells)
cons_low v cells l o = record { most = most }
  where
    most : (j : ℕ) → get_or (v ∷ cells) j 0 < 67108864
    most zero = l
    most (suc j) = o.most j

-- ---- one row

module _ (at : ℕ) (row : List ℕ) where
  abbrev one : ℕ → List ℕ → List ℕ
  one m cells = set cells (at + m) (get_or row m 0)

  one_leaves : (j m : ℕ) → (j ≡ at + m → ⊥) → Leaves j (one m)
  one_leaves j m apart = record { same = λ cells. get_or-set_other cells (at + m) j (get_or row m 0) 0 apart }

  laid_all : (P : List ℕ → Type 0) → ((m : ℕ) (cells : List ℕ) → P cells → P (one m cells)) → (cells : List ℕ) → P cells → P (laid_row at row wide cells)
  unfolding laid_row
  laid_all P keep = all_keep one P keep wide

  laid_leaves : (j : ℕ) → ((m : ℕ) → m < wide → j ≡ at + m → ⊥) → Leaves j (laid_row at row wide)
  unfolding laid_row
  laid_leaves j apart = all_leave one j wide (λ m l. one_leaves j m (apart m l))

  laid_writes : (m : ℕ) → m < wide → at + wide ≤ long → Writes long (at + m) (get_or row m 0) (laid_row at row wide)
  unfolding laid_row
  laid_writes m l room =
      one_writes one (at + m) (get_or row m 0) (λ k cells. length-set cells (at + k) (get_or row k 0)) m wide l
      (record { there = λ cells whole. get_or-set_same cells (at + m) (get_or row m 0) 0 (omega arith) })
      (λ c k other. one_leaves (at + m) c (λ e. other (omega arith)))

-- ---- all rows

module _ (rows : ℕ → ℕ → ℕ → List ℕ) where
  -- what each written word keeps, the rows keep
  module _ (P : List ℕ → Type 0) (keep : (at m near far p : ℕ) (cells : List ℕ) → P cells → P (set cells (at + m) (get_or (rows near far p) m 0))) where
    pair_keeps : (near far n : ℕ) (cells : List ℕ) → P cells → P (pair_rows rows near far n cells)
    unfolding pair_rows
    pair_keeps near far =
        all_keep _ P (λ p. laid_all (row_place near far p) (rows near far p) P (λ m. keep (row_place near far p) m near far p))

    far_keeps : (near n : ℕ) (cells : List ℕ) → P cells → P (far_rows rows near n cells)
    unfolding far_rows
    far_keeps near = all_keep _ P (λ far. pair_keeps near far 2)

    near_keeps : (fars n : ℕ) (cells : List ℕ) → P cells → P (near_rows rows fars n cells)
    unfolding near_rows
    near_keeps fars = all_keep _ P (λ near. far_keeps near fars)

  -- a place in no row is left
  module _ (j : ℕ) where
    pair_leaves : (near far : ℕ) → ((p m : ℕ) → p < 2 → m < wide → j ≡ row_place near far p + m → ⊥) → Leaves j (pair_rows rows near far 2)
    unfolding pair_rows
    pair_leaves near far apart = all_leave _ j 2 (λ p l. laid_leaves (row_place near far p) (rows near far p) j (λ m. apart p m l))

    far_leaves : (near n : ℕ) → ((far p m : ℕ) → far < n → p < 2 → m < wide → j ≡ row_place near far p + m → ⊥) → Leaves j (far_rows rows near n)
    unfolding far_rows
    far_leaves near n apart = all_leave _ j n (λ far l. pair_leaves near far (λ p m. apart far p m l))

    near_leaves : (fars n : ℕ) → ((near far p m : ℕ) → near < n → far < fars → p < 2 → m < wide → j ≡ row_place near far p + m → ⊥)
        → Leaves j (near_rows rows fars n)
    unfolding near_rows
    near_leaves fars n apart = all_leave _ j n (λ near l. far_leaves near fars (λ far p m. apart near far p m l))

  -- a row stands at its place
  module _ (near far p m : ℕ) (two : near ≤ 2) (too : far ≤ 2) (pair : p < 2) (meld : m < wide) where
    abbrev place : ℕ
    place = row_place near far p + m

    abbrev Stands : (List ℕ → List ℕ) → Type 0
    Stands = Writes long place (get_or (rows near far p) m 0)

    pair_writes : Stands (pair_rows rows near far 2)
    unfolding pair_rows
    pair_writes =
        one_writes _ place _ (λ q. laid_keeps (row_place near far q) (rows near far q) wide) p 2 pair
        (laid_writes (row_place near far p) (rows near far p) m meld (omega arith))
        (λ q l other. laid_leaves (row_place near far q) (rows near far q) place (λ k n e. other (omega arith)))

    far_writes : (n : ℕ) → far < n → n ≤ 3 → Stands (far_rows rows near n)
    unfolding far_rows
    far_writes n l few =
        one_writes _ place _ (λ e. pairs_keep rows near e 2) far n l pair_writes (λ e k other. pair_leaves place near e (λ q x y z w. other (omega arith)))

    near_writes : (fars n : ℕ) → far < fars → fars ≤ 3 → near < n → n ≤ 3 → Stands (near_rows rows fars n)
    unfolding near_rows
    near_writes fars n l few k too_few =
        one_writes _ place _ (λ e. fars_keep rows e fars) near n k (far_writes fars l few)
        (λ e k other. far_leaves place e fars (λ x q y z w v u. other (omega arith)))

  -- ---- the whole array

  module _ (nears fars : ℕ) (few : nears ≤ 3) (too : fars ≤ 3) where
    pub row_at : (near far p m : ℕ) → near < nears → far < fars → p < 2 → m < wide
        → get_or (filled rows nears fars) (row_place near far p + m) 0 ≡ get_or (rows near far p) m 0
    row_at near far p m a b c d =
        (near_writes near far p m (omega arith) (omega arith) c d fars nears b too a few).there (replicate long over) (length-replicate long over)

    pub beside_at : (q x : ℕ) → q < 18 → x < 2 → get_or (filled rows nears fars) (stride * q + x) 0 ≡ over
    beside_at q x l k =
        (near_leaves (stride * q + x) fars nears (λ near far p m a b c d e. omega arith)).same (replicate long over)
        ∙ get_or-replicate long (stride * q + x) over 0 (omega arith)

    -- and every word is small where those of the rows are
    pub filled_low : ((near far p : ℕ) → Low (rows near far p)) → Low (filled rows nears fars)
    filled_low low =
        near_keeps Low (λ at m near far p cells o. set_low cells (at + m) (get_or (rows near far p) m 0) o ((low near far p).most m))
        fars nears (replicate long over)
        (replicate_low long over (omega arith))
