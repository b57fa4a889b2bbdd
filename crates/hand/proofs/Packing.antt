-- Merging words is merging answers: `packed` takes the better of two answers to the meet of their words, and two parts beside each other to the sum.
-- Assumes nothing.
use mathlib.Core.Path.{◌≡◌, refl, sym, ap, ap₂, ◌∙◌}
use Prim.Native.Nat.{ℕ, zero, suc, ◌+◌, ◌*◌, ◌/◌, ◌%◌, ◌^◌, ◌≤◌, ◌<◌}
use native.Mathlib.Numerals.{add-one}
use native.Mathlib.Omega.{arith}
use lib.Bits.{bit_or, or_self, or_block, or_shifted_r}
use lib.Pow.{high, low}
use Rattle.tile.specs.declared.found.Found.{Found}
use Rattle.merge.specs.declared.Merged.{Merged}
use Rattle.hand.specs.declared.packed.Packed.{Packed}
use Rattle.merge.specs.Merge.{beside, better, best_to, lifted}
use Rattle.hand.specs.Words.{packed, sum, meet, meets, meet_to}
use Rattle.table.proofs.Meet.{meet_level, meet_lower, meet_higher}
use Rattle.merge.proofs.Better.{better_by}
use Rattle.hand.proofs.Below.{Below, below_best}

-- ---- the meet of two words, by their numbers n and k

module _ (n k : ℕ) {s t : ℕ} (p : s < 2 ^ 36) (q : t < 2 ^ 36) where
  abbrev x : ℕ
  x = n * 2 ^ 36 + s

  abbrev y : ℕ
  y = k * 2 ^ 36 + t

  -- their numbers are read back
  apart : (x / 2 ^ 36 ≡ n) × (y / 2 ^ 36 ≡ k)
  apart = (high n 36 p, high k 36 q)

  meet_less : n < k → x ≡ meet x y
  meet_less l = sym (meet_lower 36 x y (omega (arith, apart)))

  meet_more : k < n → y ≡ meet x y
  meet_more l = sym (meet_higher 36 x y (omega (arith, apart)))

  meet_tie : n ≡ k → n * 2 ^ 36 + bit_or s t ≡ meet x y
  meet_tie e =
      let one : bit_or n k ≡ n = ap (bit_or n) (sym e) ∙ or_self n in
      ap (λ (u : ℕ). u * 2 ^ 36 + bit_or s t) (sym one) ∙ sym (or_block 36 n k s t p q) ∙ sym (meet_level 36 x y (omega (arith, apart)))

pub packed_better : {z : ℕ} {a c : Merged} → Below 36 z a → Below 36 z c → packed (better a c) ≡ meets (packed a) (packed c)
unfolding packed
packed_better {z} {a} {c} p q =
    better_by a c (λ r. packed r ≡ meets (packed a) (packed c))
    (λ less i. record {
      necessary = meet_less a.number c.number p.necessary q.necessary less i;
      unnecessary = meet_less a.number c.number p.unnecessary q.unnecessary less i;
    })
    (λ more i. record {
      necessary = meet_more a.number c.number p.necessary q.necessary more i;
      unnecessary = meet_more a.number c.number p.unnecessary q.unnecessary more i;
    })
    (λ tie i. record {
      necessary = meet_tie a.number c.number p.necessary q.necessary tie i;
      unnecessary = meet_tie a.number c.number p.unnecessary q.unnecessary tie i;
    })

-- ---- two parts beside each other: the second's sets are moved up past the first's

sum_word : (n k t i : ℕ) {s : ℕ} → s < 2 ^ i → (n + k) * 2 ^ 36 + bit_or s (t * 2 ^ i) ≡ n * 2 ^ 36 + s + (k * 2 ^ 36 + t * 2 ^ i)
sum_word n k t i {s} l = ap (λ (u : ℕ). (n + k) * 2 ^ 36 + u) (or_shifted_r t i s l) ∙ aside (t * 2 ^ i)
  where
    aside : (u : ℕ) → (n + k) * 2 ^ 36 + (u + s) ≡ n * 2 ^ 36 + s + (k * 2 ^ 36 + u)
    aside u = omega arith

pub packed_beside : {i z : ℕ} {a : Merged} (f : Found) → Below i z a → packed (beside a (lifted i f)) ≡ sum (packed a) (packed (lifted i f))
unfolding packed beside lifted
packed_beside {i} {z} {a} f p j =
    record {
      necessary = sum_word a.number f.number f.necessary i p.necessary j;
      unnecessary = sum_word a.number f.number f.unnecessary i p.unnecessary j;
    }

-- ---- the best of some

pub meet_first : (g : ℕ → Packed) → meet_to g 0 ≡ g 0
unfolding meet_to
meet_first g = refl

pub meet_next : (g : ℕ → Packed) (n : ℕ) → meet_to g (n + 1) ≡ meets (meet_to g n) (g (n + 1))
unfolding meet_to
meet_next g n = rw add-one

pub packed_best : {z : ℕ} (f : ℕ → Merged) (g : ℕ → Packed) (n : ℕ) → ((j : ℕ) → j ≤ n → g j ≡ packed (f j)) → ((j : ℕ) → Below 36 z (f j))
    → meet_to g n ≡ packed (best_to f n)
unfolding meet_to best_to
packed_best f g zero same below = same 0 (omega arith)
packed_best f g (suc n) same below =
    ap₂ meets (packed_best f g n (λ j l. same j (omega arith)) below) (same (suc n) (omega arith)) ∙ sym (packed_better (below_best f n below) (below (suc n)))

-- ---- what the words say

abbrev pub unpack : Packed → Merged
unpack w = record { number = w.necessary / 2 ^ 36; necessary = w.necessary % 2 ^ 36; unnecessary = w.unnecessary % 2 ^ 36 }

pub unpacked : {z : ℕ} {r : Merged} {w : Packed} → Below 36 z r → w ≡ packed r → unpack w ≡ r
unfolding packed
unpacked {r = r} p e =
    rw e (λ i. record {
      number = high r.number 36 p.necessary i;
      necessary = low r.number 36 p.necessary i;
      unnecessary = low r.number 36 p.unnecessary i;
    })
