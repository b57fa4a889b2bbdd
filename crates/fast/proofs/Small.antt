-- A cell's sets have no more bits than there are ranks from it on, and its number is at most that of "no target".
-- Assumes nothing.
use mathlib.Core.List.{List, [], ◌∷◌}
use mathlib.Core.Bool.{◌&&◌}
use Prim.Native.Nat.{ℕ, suc, ◌+◌, ◌^◌, ◌≤◌, ◌<◌}
use native.Mathlib.Nat.{le_refl, pow-suc}
use native.Mathlib.Omega.{arith}
use lib.ListN.{length}
use lib.Dec.{ltb, eqb, ltb→lt}
use lib.Pow.{pow_pos}
use lib.Bits.{or_lt}
use Rattle.tile.specs.Board.{Board}
use Rattle.tile.specs.Suit.{unfound}
use Rattle.tile.specs.declared.found.Found.{Found}
use Rattle.tile.proofs.Tests.{by_test}
use Rattle.tile.proofs.Sets.{bit_le}
use Rattle.walk.specs.Walk.{choices_at, up_to}
use Rattle.table.specs.Cell.{none, united, meet, onto, tiles_with, fits_with, chosen, cell}
use Rattle.fast.proofs.Fold.{all_keep}

-- the sets have n bits
pub record Bits (n : ℕ) (r : Found) : Type 0 where
  pub necessary : r.necessary < 2 ^ n
  pub unnecessary : r.unnecessary < 2 ^ n

pub record Small (n : ℕ) (r : Found) : Type 0 where
  pub number : r.number ≤ none
  pub bits : Bits n r

unfound_small : (n x : ℕ) → x ≤ none → Small n (unfound x)
unfound_small n x l = record { number = l; bits = record { necessary = pow_pos n; unnecessary = pow_pos n } }

bits_onto : (n k x : ℕ) (r : Found) → Bits n r → Bits (suc n) (onto k x r)
unfolding onto
bits_onto n k x r s =
    record {
      necessary = omega (arith, s.necessary, bit_le (ltb k x), pow-suc 2 n);
      unnecessary = omega (arith, s.unnecessary, bit_le (ltb x k), pow-suc 2 n);
    }

small_meet : (n : ℕ) (r s : Found) → Small n r → Bits n s → Small n (meet r s)
unfolding meet
small_meet n r s x y =
    by_test (Small n) (ltb s.number r.number)
    (λ less. record { number = omega (arith, ltb→lt s.number r.number less, x.number); bits = y })
    (λ t. by_test (Small n) (ltb r.number s.number) (λ more. x) (λ equal. joined))
  where
    joined : Small n (united r s)
    joined =
        record {
          number = x.number;
          bits =
              record {
                necessary = or_lt n _ _ x.bits.necessary y.necessary;
                unnecessary = or_lt n _ _ x.bits.unnecessary y.unnecessary;
              };
        }

module _ {n : ℕ} (next : ℕ → ℕ → ℕ → ℕ → Found) (small : (near far p m : ℕ) → Small n (next near far p m)) (k near far p m : ℕ) where
  pub onto_bits : (x s q l : ℕ) → Bits (suc n) (onto k x (next s near q l))
  onto_bits x s q l = bits_onto n k x _ (small s near q l).bits

  small_chosen : (c : ℕ) (r : Found) → Small (suc n) r → Small (suc n) (chosen next k near far p m c r)
  unfolding chosen
  small_chosen c r s =
      by_test (Small (suc n)) (fits_with near far p m c) (λ fit. small_meet (suc n) r _ s (onto_bits (tiles_with near far c) _ _ _)) (λ t. s)

  pub small_choices : (c : ℕ) → Small (suc n) (up_to (chosen next k near far p m) c (unfound none))
  small_choices c =
      all_keep (chosen next k near far p m) (Small (suc n)) small_chosen c (unfound none) (unfound_small (suc n) none (le_refl none))

pub cell_small : (b : Board) (h : List ℕ) (i near far p m : ℕ) → Small (length h) (cell b h i near far p m)
unfolding cell
cell_small b [] i near far p m =
    by_test (Small 0) (eqb p 0 && eqb m 0) (λ t. unfound_small 0 0 (omega arith)) (λ t. unfound_small 0 none (le_refl none))
cell_small b (k ∷ h) i near far p m = small_choices (cell b h (i + 1)) (cell_small b h (i + 1)) k near far p m (choices_at b i)
