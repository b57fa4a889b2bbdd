-- Counts, lacks and sets in two parts: the first n kinds, and the k kinds after them.
-- Assumes nothing.
use mathlib.Core.Path.{◌≡◌, refl, sym, ap, subst, ◌∙◌}
use mathlib.Core.Logic.{◌↔◌, ◌⊎◌, inl, inr, ⊎_elim}
use mathlib.Core.List.{List, ◌++◌}
use Prim.Native.Nat.{ℕ, zero, suc, ◌+◌, ◌-◌, ◌*◌, ◌/◌, ◌%◌, ◌^◌, ◌<◌}
use native.Mathlib.Nat.{add-zero, add-suc, add_comm, mul_assoc, div-eq_of_lt, lt_of_lt_of_le}
use native.Mathlib.Omega.{arith}
use lib.ListN.{length, get_or, take, drop, get_or-append}
use lib.Seq.{get_or-append-add, get_or-take, get_or-drop}
use lib.Pow.{pow-add, pow_mono, shl_lt, shl-shr, shr-shr}
use lib.Bits.{bit_or, shifted_even}
use Rattle.tile.specs.Count.{lack_to, Has}
use Rattle.tile.specs.Answer.{Exactly}
use Rattle.tile.proofs.Tests.{at_most_or_over}
use Rattle.tile.proofs.Counts.{lack_as}
use Rattle.tile.proofs.Sets.{exactly_or}

-- ---- counts

-- t holds of its first n kinds what l does, and of the k kinds after them what r does
pub record Parts (n k : ℕ) (t l r : List ℕ) : Type 0 where
  pub first : (i : ℕ) → i < n → get_or l i 0 ≡ get_or t i 0
  pub after : (j : ℕ) → j < k → get_or r j 0 ≡ get_or t (n + j) 0

-- k kinds from n on, cut out of t
pub part_at : (n k : ℕ) (t : List ℕ) (j : ℕ) → j < k → get_or (take k (drop n t)) j 0 ≡ get_or t (n + j) 0
part_at n k t j l = get_or-take k (drop n t) j 0 l ∙ get_or-drop n t j 0

-- the parts of t: its first kinds cut out too, or t itself, of which only these are looked at
module _ (n k : ℕ) (t : List ℕ) where
  pub two_parts : Parts n k t (take n t) (take k (drop n t))
  two_parts = record { first = λ i l. get_or-take n t i 0 l; after = part_at n k t }

  pub next_part : Parts n k t t (take k (drop n t))
  next_part = record { first = λ i l. refl; after = part_at n k t }

module _ {n k : ℕ} where
  -- what holds of the first n kinds and of the k kinds after them holds of all
  all_parts : (P : ℕ → Type 0) → ((i : ℕ) → i < n → P i) → ((j : ℕ) → j < k → P (n + j)) → (i : ℕ) → i < n + k → P i
  all_parts P first after i l =
      ⊎_elim (λ over. let e : n + (i - n) ≡ i = omega arith in subst P e (after (i - n) (omega arith))) (λ under. first i under) (at_most_or_over n i)

  pub appended : {t l r : List ℕ} → t ≡ l ++ r → length l ≡ n → Parts n k t l r
  appended {t} {l} {r} e long =
      rw e
      (record {
        first = λ i m. sym (get_or-append l r 0 i (omega arith));
        after = λ j m. sym (rw (← long) (get_or-append-add l r j 0));
      })

shorter : {n k : ℕ} {t l r : List ℕ} → Parts n (suc k) t l r → Parts n k t l r
shorter x = record { first = x.first; after = λ j m. x.after j (omega arith) }

-- what is lacked in all is what the parts lack
pub lack_parts : (n k : ℕ) {t l r h h1 h2 : List ℕ} → Parts n k t l r → Parts n k h h1 h2 → lack_to (n + k) t h ≡ lack_to n l h1 + lack_to k r h2
unfolding lack_to
lack_parts n zero {t} {l} {r} {h} {h1} x y = simp add-zero (sym (lack_as n l t h1 h x.first y.first))
lack_parts n (suc k) x y = rw add-suc (omega (arith, lack_parts n k (shorter x) (shorter y), x.after k (omega arith), y.after k (omega arith)))

-- ---- sets

-- a set n kinds later has kind n + j where the set has kind j, and none of the first n kinds
later_bit : (x n j : ℕ) → x * 2 ^ n / 2 ^ (n + j) ≡ x / 2 ^ j
later_bit x n j = sym (shr-shr (x * 2 ^ n) n j) ∙ ap (λ (y : ℕ). y / 2 ^ j) (shl-shr x n)

has_later : (x n j : ℕ) → Has (x * 2 ^ n) (n + j) ↔ Has x j
unfolding Has
has_later x n j = (λ e. rw later_bit at e, λ e. rw later_bit e)

early_bit : (x d i : ℕ) → x * 2 ^ (suc d + i) / 2 ^ i % 2 ≡ 0
early_bit x d i = rw (pow-add, ← mul_assoc, shl-shr) (shifted_even x d)

none_early : (x n i : ℕ) → i < n → Has (x * 2 ^ n) i → ⊥
unfolding Has
none_early x n i l e =
    let k : suc (n - suc i) + i ≡ n = omega arith in
    omega (arith, subst (λ (y : ℕ). x * 2 ^ y / 2 ^ i % 2 ≡ 0) k (early_bit x (n - suc i) i))

-- a set of the first n kinds has no other
none_beyond : (x n j : ℕ) → x < 2 ^ n → Has x (n + j) → ⊥
unfolding Has
none_beyond x n j l e = omega (arith, ap (λ (y : ℕ). y % 2) (div-eq_of_lt (lt_of_lt_of_le l (pow_mono {i = n} {j = n + j} (omega arith)))))

itself : {n s : ℕ} → s < 2 ^ n → Exactly n s (Has s)
itself small = record { small = small; sound = λ i l e. e; complete = λ i l e. e }

-- a set of the first n kinds united with one of the k kinds after them
pub exactly_parts : {n k s t : ℕ} {P Q R : ℕ → Type 0} → Exactly n s P → Exactly k t Q
    → ((i : ℕ) → i < n → P i ↔ R i) → ((j : ℕ) → j < k → Q j ↔ R (n + j)) → Exactly (n + k) (bit_or s (t * 2 ^ n)) R
exactly_parts {n} {k} {s} {t} {P} {Q} {R} a c first after =
    record {
      small = union.small;
      sound =
          λ i l e.
          all_parts (λ i. Either i → R i) (λ i l. ⊎_elim (λ x. (first i l).0 (a.sound i l x)) (λ y. absurd (none_early t n i l y)))
          (λ j l. ⊎_elim (λ x. absurd (none_beyond s n j a.small x)) (λ y. (after j l).0 (c.sound j l ((has_later t n j).0 y)))) i l (union.sound i l e);
      complete =
          λ i l r.
          union.complete i l
          (all_parts (λ i. R i → Either i) (λ i l r. inl (a.complete i l ((first i l).1 r)))
          (λ j l r. inr ((has_later t n j).1 (c.complete j l ((after j l).1 r)))) i l r);
    }
  where
    Either : ℕ → Type 0
    Either i = Has s i ⊎ Has (t * 2 ^ n) i

    union : Exactly (n + k) (bit_or s (t * 2 ^ n)) Either
    union =
        exactly_or (itself (lt_of_lt_of_le a.small (pow_mono {i = n} {j = n + k} (omega arith))))
        (itself (rw (add_comm n k) (shl_lt k n c.small)))
