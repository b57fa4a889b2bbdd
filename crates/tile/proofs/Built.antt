-- One pair or meld as a piece, so that what holds of laying a piece is said once and not for each of the three.
-- Assumes nothing.
use mathlib.Core.Path.{◌≡◌, subst₃, ◌∙◌}
use mathlib.Core.List.{List, ◌++◌}
use Prim.Native.Nat.{ℕ, suc, ◌+◌, ◌*◌, ◌<◌}
use native.Mathlib.Omega.{arith}
use lib.ListN.{length, replicate, length-replicate}
use lib.Dec.{T}
use Rattle.tile.specs.Count.{more, sum_to}
use Rattle.tile.specs.Board.{Board}
use Rattle.tile.specs.Target.{Built}
use Rattle.tile.specs.Target.Built.{nothing, pair, triplet, sequence}
use Rattle.tile.proofs.Counts.{Within, length_more, more_within, sum_more, sum_zeros}
use Rattle.tile.proofs.Append.{more_left, more_right}

-- a pair, a triplet and a sequence, by the first of their kinds
pub data Piece : Type 0 where
  two three run : ℕ → Piece

abbrev pub put : List ℕ → Piece → List ℕ
put t (two i) = more t i 2
put t (three i) = more t i 3
put t (run i) = more (more (more t i 1) (i + 1) 1) (i + 2) 1

abbrev pub Lies : Board → Piece → Type 0
Lies b (two i) = (i < b.kinds) × T (b.held i)
Lies b (three i) = (i < b.kinds) × T (b.held i)
Lies b (run i) = (i + 2 < b.kinds) × T (b.starts i)

-- how many pairs, and how many melds, there are with the piece
abbrev pub pairs_with : Piece → ℕ → ℕ
pairs_with (two i) p = suc p
pairs_with (three i) p = p
pairs_with (run i) p = p

abbrev pub melds_with : Piece → ℕ → ℕ
melds_with (two i) m = m
melds_with (three i) m = suc m
melds_with (run i) m = suc m

-- the same piece k kinds later
abbrev pub later : ℕ → Piece → Piece
later k (two i) = two (k + i)
later k (three i) = three (k + i)
later k (run i) = run (k + i)

-- ---- laying pieces, and induction over what is laid

pub lay : {b : Board} {p m : ℕ} {t : List ℕ} (q : Piece) → Lies b q → Built b p m t → Built b (pairs_with q p) (melds_with q m) (put t q)
lay (two i) (l, h) r = pair i l h r
lay (three i) (l, h) r = triplet i l h r
lay (run i) (l, h) r = sequence i l h r

module _ {b : Board} (P : ℕ → ℕ → List ℕ → Type 0) (bare : P 0 0 (replicate b.kinds 0))
    (one : (p m : ℕ) (t : List ℕ) (q : Piece) → Lies b q → Built b p m t → P p m t → P (pairs_with q p) (melds_with q m) (put t q)) where
  pub built_ind : {p m : ℕ} {t : List ℕ} → Built b p m t → P p m t
  built_ind nothing = bare
  built_ind (pair {p} {m} {t} i l h r) = one p m t (two i) (l, h) r (built_ind r)
  built_ind (triplet {p} {m} {t} i l h r) = one p m t (three i) (l, h) r (built_ind r)
  built_ind (sequence {p} {m} {t} i l h r) = one p m t (run i) (l, h) r (built_ind r)

pub built_as : {b : Board} {p m p' m' : ℕ} {t t' : List ℕ} → Built b p m t → p ≡ p' → m ≡ m' → t ≡ t' → Built b p' m' t'
built_as {b} r ep em et = subst₃ (λ (p m : ℕ) (t : List ℕ). Built b p m t) ep em et r

-- ---- the counts

length_put : (t : List ℕ) (q : Piece) → length (put t q) ≡ length t
length_put t (two i) = length_more t i 2
length_put t (three i) = length_more t i 3
length_put t (run i) = length_more (more (more t i 1) (i + 1) 1) (i + 2) 1 ∙ length_more (more t i 1) (i + 1) 1 ∙ length_more t i 1

pub built_length : {b : Board} {p m : ℕ} {t : List ℕ} → Built b p m t → length t ≡ b.kinds
built_length {b} = built_ind (λ p m t. length t ≡ b.kinds) (length-replicate b.kinds 0) (λ p m t q f r e. length_put t q ∙ e)

pub put_within : (t : List ℕ) (q : Piece) → Within t (put t q)
put_within t (two i) j = more_within t i 2 j
put_within t (three i) j = more_within t i 3 j
put_within t (run i) j =
    omega (arith, more_within t i 1 j, more_within (more t i 1) (i + 1) 1 j, more_within (more (more t i 1) (i + 1) 1) (i + 2) 1 j)

pub put_left : (b : Board) (l r : List ℕ) (q : Piece) → Lies b q → length l ≡ b.kinds → put (l ++ r) q ≡ put l q ++ r
put_left b l r (two i) (f, h) e = more_left l r i 2 (omega arith)
put_left b l r (three i) (f, h) e = more_left l r i 3 (omega arith)
put_left b l r (run i) (f, h) e =
    rw (
      more_left l r i 1 (omega arith),
      more_left (more l i 1) r (i + 1) 1 (omega (arith, length_more l i 1)),
      more_left (more (more l i 1) (i + 1) 1) r (i + 2) 1 (omega (arith, length_more l i 1, length_more (more l i 1) (i + 1) 1)),
    )

pub put_right : (k : ℕ) (l r : List ℕ) (q : Piece) → length l ≡ k → put (l ++ r) (later k q) ≡ l ++ put r q
put_right k l r (two i) e = more_right l r (k + i) i 2 (omega arith)
put_right k l r (three i) e = more_right l r (k + i) i 3 (omega arith)
put_right k l r (run i) e =
    rw (
      more_right l r (k + i) i 1 (omega arith),
      more_right l (more r i 1) (k + i + 1) (i + 1) 1 (omega arith),
      more_right l (more (more r i 1) (i + 1) 1) (k + i + 2) (i + 2) 1 (omega arith),
    )

-- ---- three tiles to a meld, two to a pair

sum_run : (n : ℕ) (t : List ℕ) (i : ℕ) → i + 2 < n → length t ≡ n → sum_to n (put t (run i)) ≡ sum_to n t + 3
sum_run n t i l e =
    let u = more t i 1 in
    let v = more u (i + 1) 1 in
    let lu = length_more t i 1 in
    let lv = length_more u (i + 1) 1 in
    omega (
      arith,
      sum_more n t i 1 (omega arith) (omega arith),
      sum_more n u (i + 1) 1 (omega arith) (omega arith),
      sum_more n v (i + 2) 1 l (omega arith),
    )

pub built_sum : {b : Board} {p m : ℕ} {t : List ℕ} → Built b p m t → sum_to b.kinds t ≡ 3 * m + 2 * p
built_sum {b} = built_ind (λ p m t. sum_to n t ≡ 3 * m + 2 * p) (sum_zeros n n) (λ p m t q f r e. one p m t q f (built_length r) e)
  where
    n : ℕ
    n = b.kinds

    one : (p m : ℕ) (t : List ℕ) (q : Piece) → Lies b q → length t ≡ b.kinds → sum_to n t ≡ 3 * m + 2 * p
        → sum_to n (put t q) ≡ 3 * melds_with q m + 2 * pairs_with q p
    one p m t (two i) (l, h) len e = omega (arith, sum_more n t i 2 l (omega arith))
    one p m t (three i) (l, h) len e = omega (arith, sum_more n t i 3 l (omega arith))
    one p m t (run i) (l, h) len e = omega (arith, sum_run n t i l len)
