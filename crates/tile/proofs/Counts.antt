-- Laws of counts: what adding tiles does to a count and to the sum, and how the lack grows.
-- Assumes nothing.
use mathlib.Core.Path.{◌≡◌, refl, ap}
use mathlib.Core.Logic.{⊎_elim, ◌≢◌}
use mathlib.Core.List.{List, [], ◌∷◌}
use Prim.Native.Nat.{ℕ, zero, suc, ◌+◌, ◌-◌, ◌*◌, ◌≤◌, ◌<◌}
use native.Mathlib.Nat.{add-zero, add-suc, add_assoc, le_refl}
use native.Mathlib.Numerals.{add-one}
use native.Mathlib.Omega.{arith}
use lib.ListN.{length, get_or, replicate, length-set, get_or-eq_default}
use lib.Seq.{get_or-set_same, get_or-set_other, set-get_or}
use lib.Dec.{T, leb, leb→le}
use Rattle.tile.specs.Count.{copies, Few, more, sum_to, lack_to}
use Rattle.tile.proofs.Tests.{at_most_or_over, all_to, all_to_lem}

-- no count of t is above that of u
abbrev pub Within : List ℕ → List ℕ → Type 0
Within t u = (i : ℕ) → get_or t i 0 ≤ get_or u i 0

-- few of each kind, by a computed test
pub few_by : (t : List ℕ) → T (all_to (length t) (λ i. leb (get_or t i 0) copies)) → Few t
few_by t h i =
    ⊎_elim (λ over. omega (arith, get_or-eq_default t 0 over))
    (λ under. leb→le (get_or t i 0) copies (all_to_lem (length t) (λ i. leb (get_or t i 0) copies) h i under)) (at_most_or_over (length t) i)

-- a kind that is held is one of the kinds counted
pub held_inside : (h : List ℕ) (i : ℕ) → 0 < get_or h i 0 → i < length h
held_inside h i held = ⊎_elim (λ over. absurd (omega (arith, get_or-eq_default h 0 over))) (λ under. under) (at_most_or_over (length h) i)

-- ---- one kind more often

pub length_more : (t : List ℕ) (i c : ℕ) → length (more t i c) ≡ length t
unfolding more
length_more t i c = length-set t i (get_or t i 0 + c)

pub more_at : (t : List ℕ) (i c : ℕ) → i < length t → get_or (more t i c) i 0 ≡ get_or t i 0 + c
unfolding more
more_at t i c l = get_or-set_same t i (get_or t i 0 + c) 0 l

pub more_off : (t : List ℕ) (i c j : ℕ) → j ≢ i → get_or (more t i c) j 0 ≡ get_or t j 0
unfolding more
more_off t i c j n = get_or-set_other t i j (get_or t i 0 + c) 0 n

pub more_within : (t : List ℕ) (i c : ℕ) → Within t (more t i c)
unfolding more
more_within [] i c j = le_refl 0
more_within (x ∷ t) zero c zero = omega arith
more_within (x ∷ t) zero c (suc j) = le_refl (get_or t j 0)
more_within (x ∷ t) (suc i) c zero = le_refl x
more_within (x ∷ t) (suc i) c (suc j) = more_within t i c j

pub more_most : (t : List ℕ) (i c j : ℕ) → get_or (more t i c) j 0 ≤ get_or t j 0 + c
unfolding more
more_most [] i c j = omega arith
more_most (x ∷ t) zero c zero = le_refl (x + c)
more_most (x ∷ t) zero c (suc j) = omega arith
more_most (x ∷ t) (suc i) c zero = omega arith
more_most (x ∷ t) (suc i) c (suc j) = more_most t i c j

-- none more is the same, more and again more is more at once, and the order does not matter
pub more_none : (t : List ℕ) (i : ℕ) → more t i 0 ≡ t
unfolding more
more_none t i = rw add-zero (set-get_or t i 0)

pub more_there : (t : List ℕ) (i c : ℕ) → (0 < c → i < length t) → get_or (more t i c) i 0 ≡ get_or t i 0 + c
more_there t i zero l = omega (arith, ap (λ (u : List ℕ). get_or u i 0) (more_none t i))
more_there t i (suc c) l = more_at t i (suc c) (l (omega arith))

pub more_more : (t : List ℕ) (i a c : ℕ) → more (more t i a) i c ≡ more t i (a + c)
unfolding more
more_more [] i a c = refl
more_more (x ∷ t) zero a c = ap (λ (y : ℕ). y ∷ t) (add_assoc x a c)
more_more (x ∷ t) (suc i) a c = ap (λ (u : List ℕ). x ∷ u) (more_more t i a c)

pub more_swap : (t : List ℕ) (i a j c : ℕ) → more (more t i a) j c ≡ more (more t j c) i a
unfolding more
more_swap [] i a j c = refl
more_swap (x ∷ t) zero a zero c = ap (λ (y : ℕ). y ∷ t) (omega arith)
more_swap (x ∷ t) zero a (suc j) c = refl
more_swap (x ∷ t) (suc i) a zero c = refl
more_swap (x ∷ t) (suc i) a (suc j) c = ap (λ (u : List ℕ). x ∷ u) (more_swap t i a j c)

-- ---- the sum

sum_off : (n : ℕ) (t : List ℕ) (i c : ℕ) → n ≤ i → sum_to n (more t i c) ≡ sum_to n t
unfolding sum_to
sum_off zero t i c l = refl
sum_off (suc n) t i c l = omega (arith, sum_off n t i c (omega arith), more_off t i c n (omega arith))

pub sum_more : (n : ℕ) (t : List ℕ) (i c : ℕ) → i < n → i < length t → sum_to n (more t i c) ≡ sum_to n t + c
unfolding sum_to
sum_more zero t i c l h = absurd (omega arith)
sum_more (suc n) t i c l h =
    ⊎_elim
    (λ over.
    let e : i ≡ n = omega arith in
    omega (arith, sum_off n t i c over, more_at t i c h, ap (λ (k : ℕ). get_or (more t i c) k 0) e, ap (λ (k : ℕ). get_or t k 0) e))
    (λ under. omega (arith, sum_more n t i c under h, more_off t i c n (omega arith))) (at_most_or_over n i)

pub sum_there : (n : ℕ) (t : List ℕ) (i c : ℕ) → (0 < c → i < n) → n ≤ length t → sum_to n (more t i c) ≡ sum_to n t + c
sum_there n t i zero l e = omega (arith, ap (sum_to n) (more_none t i))
sum_there n t i (suc c) l e = sum_more n t i (suc c) (l (omega arith)) (omega (arith, l (omega arith)))

pub zeros_at : (n i : ℕ) → ◌≡◌ {A = ℕ} (get_or (replicate n 0) i 0) 0
zeros_at zero i = refl
zeros_at (suc n) zero = refl
zeros_at (suc n) (suc i) = zeros_at n i

pub sum_zeros : (n k : ℕ) → sum_to n (replicate k 0) ≡ 0
unfolding sum_to
sum_zeros zero k = refl
sum_zeros (suc n) k = omega (arith, sum_zeros n k, zeros_at k n)

-- it grows with each kind, and is few for each
pub sum_further : (n k : ℕ) (t : List ℕ) → n ≤ k → sum_to n t ≤ sum_to k t
unfolding sum_to
sum_further n zero t l = let e : n ≡ 0 = omega arith in rw e (le_refl 0)
sum_further n (suc k) t l =
    ⊎_elim (λ over. let e : n ≡ suc k = omega arith in rw e (le_refl (sum_to (suc k) t)))
    (λ under. omega (arith, sum_further n k t (omega arith))) (at_most_or_over (suc k) n)

pub sum_few : (n : ℕ) (t : List ℕ) → Few t → sum_to n t ≤ copies * n
unfolding sum_to
sum_few zero t few = le_refl 0
sum_few (suc n) t few = omega (arith, sum_few n t few, few n)

-- counts that are no more than those from o on sum up to no more
pub sum_from : (o n : ℕ) (u h : List ℕ) → ((i : ℕ) → get_or u i 0 ≤ get_or h (o + i) 0) → sum_to n u ≤ sum_to (o + n) h
unfolding sum_to
sum_from o zero u h most = omega arith
sum_from o (suc n) u h most = rw add-suc (omega (arith, sum_from o n u h most, most n))

-- what holds no more of any kind holds no more in all; and where it holds as many in all, it holds the same
module _ (t h : List ℕ) where
  sum_within : (n : ℕ) → ((i : ℕ) → i < n → get_or t i 0 ≤ get_or h i 0) → sum_to n t ≤ sum_to n h
  unfolding sum_to
  sum_within zero w = le_refl 0
  sum_within (suc n) w = omega (arith, sum_within n (λ i l. w i (omega arith)), w n (omega arith))

  pub sum_same : (n : ℕ) → ((i : ℕ) → i < n → get_or t i 0 ≤ get_or h i 0) → sum_to n h ≤ sum_to n t → (i : ℕ) → i < n → get_or t i 0 ≡ get_or h i 0
  unfolding sum_to
  sum_same zero w g i l = absurd (omega arith)
  sum_same (suc n) w g i l =
      let below = sum_within n (λ i l. w i (omega arith)) in
      let here = w n (omega arith) in
      ⊎_elim (λ (over : n ≤ i). let e : i ≡ n = omega arith in rw e (omega arith))
      (λ under. sum_same n (λ i l. w i (omega arith)) (omega arith) i under) (at_most_or_over n i)

-- ---- the lack

-- no more is lacked than the target holds, and that is few of each kind
pub lack_sum : (n : ℕ) (t h : List ℕ) → lack_to n t h ≤ sum_to n t
unfolding lack_to sum_to
lack_sum zero t h = le_refl 0
lack_sum (suc n) t h = omega (arith, lack_sum n t h)

pub lack_few : (n : ℕ) (t h : List ℕ) → Few t → lack_to n t h ≤ copies * n
unfolding lack_to
lack_few zero t h few = le_refl 0
lack_few (suc n) t h few = omega (arith, lack_few n t h few, few n)

-- a target within another lacks no more
pub lack_within : (n : ℕ) (t u h : List ℕ) → Within t u → lack_to n t h ≤ lack_to n u h
unfolding lack_to
lack_within zero t u h w = le_refl 0
lack_within (suc n) t u h w = omega (arith, lack_within n t u h w, w n)

-- nothing is lacked exactly where the hand holds the target
pub lack_none : (n : ℕ) (t h : List ℕ) → ((i : ℕ) → i < n → get_or t i 0 ≤ get_or h i 0) → lack_to n t h ≡ 0
unfolding lack_to
lack_none zero t h w = refl
lack_none (suc n) t h w = omega (arith, lack_none n t h (λ i l. w i (omega arith)), w n (omega arith))

pub none_lacked : (n : ℕ) (t h : List ℕ) → lack_to n t h ≡ 0 → (i : ℕ) → i < n → get_or t i 0 ≤ get_or h i 0
unfolding lack_to
none_lacked zero t h e i l = absurd (omega arith)
none_lacked (suc n) t h e i l =
    ⊎_elim (λ (over : n ≤ i). let k : i ≡ n = omega arith in rw k (omega arith))
    (λ under. none_lacked n t h (omega arith) i under) (at_most_or_over n i)

-- and where something is lacked, it is lacked of some kind
pub lack_some : (n : ℕ) (t h : List ℕ) → 0 < lack_to n t h → (i : ℕ) × (i < n) × (get_or h i 0 < get_or t i 0)
unfolding lack_to
lack_some zero t h l = absurd (omega arith)
lack_some (suc n) t h l =
    ⊎_elim (λ over. let (i, m, g) = lack_some n t h (omega arith) in (i, omega arith, g)) (λ under. (n, omega arith, under))
    (at_most_or_over (get_or t n 0) (get_or h n 0))

-- where a target lacks all its tiles, none of its kinds is held
pub lacks_all : (n : ℕ) (t h : List ℕ) → sum_to n t ≤ lack_to n t h → (i : ℕ) → i < n → 0 < get_or t i 0 → get_or h i 0 ≡ 0
unfolding sum_to lack_to
lacks_all zero t h all i l some = absurd (omega arith)
lacks_all (suc n) t h all i l some =
    let most = lack_sum n t h in
    ⊎_elim (λ (over : n ≤ i). let e : i ≡ n = omega arith in rw e (omega (arith, rw e at some))) (λ under. lacks_all n t h (omega arith) i under some)
    (at_most_or_over n i)

-- the lack is of the kinds counted: the same where these are the same, no less over more kinds, no more past the last tile
pub lack_as : (n : ℕ) (t u h k : List ℕ) → ((i : ℕ) → i < n → get_or t i 0 ≡ get_or u i 0) → ((i : ℕ) → i < n → get_or h i 0 ≡ get_or k i 0)
    → lack_to n t h ≡ lack_to n u k
unfolding lack_to
lack_as zero t u h k st sh = refl
lack_as (suc n) t u h k st sh =
    omega (arith, lack_as n t u h k (λ i l. st i (omega arith)) (λ i l. sh i (omega arith)), st n (omega arith), sh n (omega arith))

pub lack_further : (n k : ℕ) (t h : List ℕ) → lack_to n t h ≤ lack_to (n + k) t h
unfolding lack_to
lack_further n zero t h = rw add-zero (le_refl (lack_to n t h))
lack_further n (suc k) t h = rw add-suc (omega (arith, lack_further n k t h))

pub lack_end : (n k : ℕ) (t h : List ℕ) → ((i : ℕ) → n ≤ i → i < n + k → get_or t i 0 ≡ 0) → lack_to (n + k) t h ≡ lack_to n t h
unfolding lack_to
lack_end n zero t h none = rw add-zero
lack_end n (suc k) t h none = rw add-suc (omega (arith, lack_end n k t h (λ i l m. none i l (omega arith)), none (n + k) (omega arith) (omega arith)))

-- what the target lacks beside all that the hand holds, and what the hand has beyond the target beside all that the target holds, are as much
pub lack_both : (n : ℕ) (t h : List ℕ) → lack_to n t h + sum_to n h ≡ lack_to n h t + sum_to n t
unfolding lack_to sum_to
lack_both zero t h = refl
lack_both (suc n) t h = omega (arith, lack_both n t h)

-- one kind more, as a loop counts
pub lack_next : (n : ℕ) (t h : List ℕ) → lack_to (n + 1) t h ≡ lack_to n t h + (get_or t n 0 - get_or h n 0)
unfolding lack_to
lack_next n t h = rw add-one
