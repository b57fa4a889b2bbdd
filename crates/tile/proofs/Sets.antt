-- Laws of sets as numbers: a set is known by its members; what the set of a test holds, and what a union holds.
-- Assumes nothing.
use mathlib.Core.Path.{◌≡◌, refl, sym, ap, ◌∙◌}
use mathlib.Core.Logic.{◌↔◌, ◌⊎◌, inl, inr, ⊎_elim, ⊎_map}
use mathlib.Core.Bool.{Bool, true, false}
use mathlib.Core.List.{List}
use Prim.Native.Nat.{ℕ, zero, suc, ◌+◌, ◌-◌, ◌*◌, ◌/◌, ◌%◌, ◌^◌, ◌≤◌, ◌<◌, max}
use native.Mathlib.Nat.{add-mul-div_right, div-eq_of_lt, pow-suc, div-div-eq-div-mul, mul-le-mul_right, mod-lt, div-one}
use native.Mathlib.Numerals.{add-one}
use native.Mathlib.Omega.{arith}
use lib.ListN.{get_or}
use lib.Dec.{T, ltb, ltb→lt, lt→ltb}
use lib.Pow.{pow_pos, pow-add}
use lib.Bits.{bit_or, or_lt, or_step, or_shr}
use Rattle.tile.specs.Count.{bit, set_to, beyond_to, Has}
use Rattle.tile.specs.Answer.{Exactly}
use Rattle.tile.proofs.Tests.{at_most_or_over}

-- ---- a set is known by its members

has_half : (x i : ℕ) → (x / 2 / 2 ^ i) ≡ x / 2 ^ suc i
has_half x i = div-div-eq-div-mul x 2 (2 ^ i) ∙ ap (λ (k : ℕ). x / k) (omega arith)

same_bit : (u v : ℕ) → u < 2 → v < 2 → (u ≡ 1) ↔ (v ≡ 1) → u ≡ v
same_bit zero zero hu hv e = refl
same_bit zero (suc v) hu hv e = omega (arith, e.1 (omega arith))
same_bit (suc u) v hu hv e = omega (arith, e.0 (omega arith))

same_members : (n a b : ℕ) → a < 2 ^ n → b < 2 ^ n → ((i : ℕ) → i < n → Has a i ↔ Has b i) → a ≡ b
unfolding Has
same_members zero a b ha hb h = omega arith
same_members (suc n) a b ha hb h =
    let low : a % 2 ≡ b % 2 = same_bit (a % 2) (b % 2) (mod-lt a (pow_pos 1)) (mod-lt b (pow_pos 1)) (simp div-one at (h 0 (omega arith))) in
    let rest : a / 2 ≡ b / 2 =
    same_members n (a / 2) (b / 2) (omega arith) (omega arith)
    (λ i l. simp has_half (h (suc i) (omega arith))) in
    omega arith

-- only one set has exactly these kinds
pub exactly_once : {n s t : ℕ} {P Q : ℕ → Type 0} → ((i : ℕ) → P i → Q i) → ((i : ℕ) → Q i → P i) → Exactly n s P → Exactly n t Q → s ≡ t
exactly_once {n} {s} {t} to fro a b =
    same_members n s t a.small b.small
    (λ i l. (λ e. b.complete i l (to i (a.sound i l e)), λ e. a.complete i l (fro i (b.sound i l e))))

-- ---- the set of a test

pub bit_le : (b : Bool) → bit b ≤ 1
unfolding bit
bit_le true = omega arith
bit_le false = omega arith

passed : (b : Bool) → bit b ≡ 1 → T b
unfolding bit
passed true e = tt
passed false e = omega arith

is_one : (b : Bool) → T b → bit b ≡ 1
unfolding bit
is_one true t = refl
is_one false t = absurd t

regroup : (x a c : ℕ) → x * (a * 2 * c) ≡ x * a * 2 * c
regroup x a c = omega arith

power : (n i d : ℕ) → n ≡ suc d + i → 2 ^ n ≡ 2 ^ d * 2 * 2 ^ i
power n i d e = ap (λ (k : ℕ). 2 ^ k) e ∙ pow-add 2 (suc d) i ∙ ap (λ (k : ℕ). k * 2 ^ i) (pow-suc 2 d)

module _ (test : ℕ → Bool) where
  -- one kind more, as a loop counts
  pub set_to_next : (n : ℕ) → set_to (n + 1) test ≡ set_to n test + bit (test n) * 2 ^ n
  unfolding set_to
  set_to_next n = rw add-one

  pub set_to_small : (n : ℕ) → set_to n test < 2 ^ n
  unfolding set_to
  set_to_small zero = omega arith
  set_to_small (suc n) = omega (arith, set_to_small n, mul-le-mul_right (2 ^ n) (bit_le (test n)))

  top : (n : ℕ) → (set_to (suc n) test / 2 ^ n) % 2 ≡ bit (test n)
  unfolding set_to
  top n =
      omega (arith, add-mul-div_right (set_to n test) (bit (test n)) (pow_pos n), div-eq_of_lt (set_to_small n), bit_le (test n))

  below : (n i d : ℕ) → n ≡ suc d + i → (set_to (suc n) test / 2 ^ i) % 2 ≡ (set_to n test / 2 ^ i) % 2
  unfolding set_to
  below n i d e =
      let split : bit (test n) * 2 ^ n ≡ bit (test n) * 2 ^ d * 2 * 2 ^ i = ap (λ (k : ℕ). bit (test n) * k) (power n i d e) ∙ regroup (bit (test n)) (2 ^ d) (2 ^ i) in
      rw split (omega (arith, add-mul-div_right (set_to n test) (bit (test n) * 2 ^ d * 2) (pow_pos i)))

  bit_at : (n i : ℕ) → i < n → (set_to n test / 2 ^ i) % 2 ≡ bit (test i)
  bit_at zero i h = absurd (omega arith)
  bit_at (suc n) i h =
      ⊎_elim (λ over. let e : i ≡ n = omega arith in rw e (top n))
      (λ under. below n i (n - suc i) (omega arith) ∙ bit_at n i under) (at_most_or_over n i)

  -- the set of a test has exactly the kinds that pass
  pub exactly_test : (n : ℕ) → Exactly n (set_to n test) (λ i. T (test i))
  unfolding Has
  exactly_test n =
      record {
        small = set_to_small n;
        sound = λ i l e. passed (test i) (sym (bit_at n i l) ∙ e);
        complete = λ i l t. bit_at n i l ∙ is_one (test i) t;
      }

-- ---- sets with exactly some kinds

-- the same kinds, said in another way
pub exactly_as : {n s : ℕ} {P Q : ℕ → Type 0} → ((i : ℕ) → P i → Q i) → ((i : ℕ) → Q i → P i) → Exactly n s P → Exactly n s Q
exactly_as to fro e = record { small = e.small; sound = λ i l a. to i (e.sound i l a); complete = λ i l q. e.complete i l (fro i q) }

-- the empty set has none
pub has_none : (i : ℕ) → Has 0 i → ⊥
unfolding Has
has_none i e = omega (arith, div-eq_of_lt (pow_pos i))

pub exactly_none : {n : ℕ} {P : ℕ → Type 0} → ((i : ℕ) → i < n → P i → ⊥) → Exactly n 0 P
exactly_none {n} none = record { small = pow_pos n; sound = λ i l e. absurd (has_none i e); complete = λ i l q. absurd (none i l q) }

-- the kinds of which t holds more than h
pub exactly_beyond : (n : ℕ) (t h : List ℕ) → Exactly n (beyond_to n t h) (λ i. get_or h i 0 < get_or t i 0)
unfolding beyond_to
exactly_beyond n t h =
    exactly_as (λ i. ltb→lt (get_or h i 0) (get_or t i 0)) (λ i. lt→ltb (get_or h i 0) (get_or t i 0)) (exactly_test (λ i. ltb (get_or h i 0) (get_or t i 0)) n)

or_bit : (a b i : ℕ) → (bit_or a b / 2 ^ i) % 2 ≡ max ((a / 2 ^ i) % 2) ((b / 2 ^ i) % 2)
or_bit a b i = rw or_shr (omega (arith, or_step (a / 2 ^ i) (b / 2 ^ i)))

one_of : (u v : ℕ) → max u v ≡ 1 → (u ≡ 1) ⊎ (v ≡ 1)
one_of zero v e = inr (omega arith)
one_of (suc u) v e = inl (omega arith)

-- a union has exactly the kinds of either set
pub exactly_or : {n s t : ℕ} {P Q : ℕ → Type 0} → Exactly n s P → Exactly n t Q → Exactly n (bit_or s t) (λ i. P i ⊎ Q i)
unfolding Has
exactly_or {n} {s} {t} a b =
    record {
      small = or_lt n s t a.small b.small;
      sound = λ i l e. ⊎_map (a.sound i l) (b.sound i l) (one_of ((s / 2 ^ i) % 2) ((t / 2 ^ i) % 2) (sym (or_bit s t i) ∙ e));
      complete = λ i l. ⊎_elim (λ p. omega (arith, or_bit s t i, a.complete i l p)) (λ q. omega (arith, or_bit s t i, b.complete i l q));
    }
