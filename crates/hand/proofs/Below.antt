-- How large numbers and sets get as suits are merged: each suit brings nine bits more, and at most 14 more to the number.
-- Assumes nothing.
use mathlib.Core.List.{List}
use Prim.Native.Nat.{ℕ, zero, suc, ◌+◌, ◌-◌, ◌*◌, ◌^◌, ◌≤◌, ◌<◌}
use native.Mathlib.Omega.{arith}
use lib.Bits.{bit_or, or_lt}
use lib.Pow.{pow_mono, shl_lt}
use Rattle.tile.specs.declared.found.Found.{Found}
use Rattle.merge.specs.declared.Merged.{Merged}
use Rattle.merge.specs.Merge.{beside, better, best_to, shared, merged, lifted, suit_at}
use Rattle.hand.specs.Entry.{Low}
use Rattle.merge.proofs.Better.{better_by}

-- no number above x, and no bit of a set from i on
pub record Below (i x : ℕ) (r : Merged) : Type 0 where
  pub number : r.number ≤ x
  pub necessary : r.necessary < 2 ^ i
  pub unnecessary : r.unnecessary < 2 ^ i

-- of each goal
pub record AllBelow (i x : ℕ) (f : ℕ → ℕ → Merged) : Type 0 where
  pub each : (p m : ℕ) → Below i x (f p m)

pub below_wider : {i k x y : ℕ} {r : Merged} → i ≤ k → x ≤ y → Below i x r → Below k y r
below_wider {i} {k} l n p =
    record {
      number = omega (arith, p.number);
      necessary = omega (arith, p.necessary, pow_mono {i = i} {j = k} l);
      unnecessary = omega (arith, p.unnecessary, pow_mono {i = i} {j = k} l);
    }

below_better : {i x : ℕ} {a c : Merged} → Below i x a → Below i x c → Below i x (better a c)
below_better {i} {x} {a} {c} p q =
    better_by a c (Below i x) (λ less. p) (λ more. q)
    (λ tie. record {
      number = p.number;
      necessary = or_lt i a.necessary c.necessary p.necessary q.necessary;
      unnecessary = or_lt i a.unnecessary c.unnecessary p.unnecessary q.unnecessary;
    })

pub below_best : {i x : ℕ} (f : ℕ → Merged) (n : ℕ) → ((j : ℕ) → Below i x (f j)) → Below i x (best_to f n)
unfolding best_to
below_best f zero each = each 0
below_best f (suc n) each = below_better (below_best f n each) (each (suc n))

-- nine bits, moved up by i, and those below
moved_up : {s t : ℕ} (i : ℕ) → s < 2 ^ i → t < 2 ^ 9 → bit_or s (t * 2 ^ i) < 2 ^ (9 + i)
moved_up {s} {t} i l k = or_lt (9 + i) s (t * 2 ^ i) (omega (arith, pow_mono {i = i} {j = 9 + i} (omega arith))) (shl_lt 9 i k)

module _ {i x : ℕ} {A : ℕ → ℕ → Merged} (below : AllBelow i x A) {e : List Found} (low : Low e) where
  pub shared_below : (p q m j : ℕ) → Below (9 + i) (x + 14) (shared (A p) (suit_at i e q) m j)
  unfolding beside suit_at lifted
  shared_below p q m j =
      let a = below.each p j in
      let g = 5 * q + (m - j) in
      record {
        number = omega (arith, a.number, low.number g);
        necessary = moved_up i a.necessary (low.necessary g);
        unnecessary = moved_up i a.unnecessary (low.unnecessary g);
      }

  pub merged_below : AllBelow (9 + i) (x + 14) (merged A (suit_at i e))
  unfolding merged
  merged_below = record { each = λ p m. below_best _ p (λ q. below_best _ m (shared_below q (p - q) m)) }

-- one suit
pub suit_below : (i : ℕ) {e : List Found} → Low e → AllBelow (9 + i) 14 (suit_at i e)
unfolding suit_at lifted
suit_below i low =
    record {
      each = λ p m.
          let g = 5 * p + m in
          record { number = low.number g; necessary = shl_lt 9 i (low.necessary g); unnecessary = shl_lt 9 i (low.unnecessary g) };
    }
