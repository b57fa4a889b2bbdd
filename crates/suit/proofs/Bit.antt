-- How a loop makes the set of a test, bit by bit.
-- Assumes nothing.
use mathlib.Core.Path.{◌≡◌, ap, ◌∙◌}
use mathlib.Core.Bool.{Bool, true, false}
use Prim.Native.Nat.{ℕ, ◌+◌, ◌*◌, ◌%◌, ◌^◌, ◌<◌}
use native.Mathlib.Nat.{zero-mul, add-zero, add_comm}
use native.Mathlib.Omega.{arith}
use lib.Dec.{lit<}
use lib.Bits.{bit_or, or_shifted_r}
use lib.Pow.{shl_exact}
use Rattle.tile.specs.Count.{bit, set_to}
use Rattle.tile.proofs.Sets.{set_to_small, set_to_next}

module _ (test : ℕ → Bool) (i x : ℕ) (e : x ≡ set_to i test) where
  -- kind i passes and joins a set of kinds below it
  pub joins : test i ≡ true → i < 16 → bit_or x (1 * 2 ^ i % 2 ^ 16) ≡ set_to (i + 1) test
  unfolding bit
  joins p l =
      let below : x < 2 ^ i = rw e (set_to_small test i) in
      ap (bit_or x) (shl_exact 1 i 16 (lit< tt) (omega arith)) ∙ or_shifted_r 1 i x below ∙ rw (set_to_next, p, e, add_comm (1 * 2 ^ i))

  -- or it fails and does not
  pub stays : test i ≡ false → x ≡ set_to (i + 1) test
  unfolding bit
  stays p = rw (set_to_next, p, zero-mul, add-zero) e
