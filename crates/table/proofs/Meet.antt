-- Words are met by their numbers.
-- Assumes nothing.
use mathlib.Core.Path.{◌≡◌}
use mathlib.Core.Logic.{⊎_elim}
use Prim.Native.Nat.{ℕ, ◌/◌, ◌^◌, ◌<◌}
use native.Mathlib.Omega.{arith}
use lib.Bits.{bit_or}
use lib.Pow.{shr_mono}
use borrow.Author.Tests.{lt-ltb, le-ltb, eq-eqb, ne_eqb}
use Rattle.tile.proofs.Tests.{at_most_or_over}
use Rattle.table.specs.Meet.{meet_word}

-- the word with the smaller number is the smaller word
smaller : (w x y : ℕ) → x / 2 ^ w < y / 2 ^ w → x < y
smaller w x y l = ⊎_elim (λ over. absurd (omega (arith, shr_mono w over))) (λ under. under) (at_most_or_over y x)

module _ (w x y : ℕ) where
  pub meet_level : x / 2 ^ w ≡ y / 2 ^ w → meet_word w x y ≡ bit_or x y
  unfolding meet_word
  meet_level e = rw (eq-eqb (x / 2 ^ w) (y / 2 ^ w) e)

  pub meet_lower : x / 2 ^ w < y / 2 ^ w → meet_word w x y ≡ x
  unfolding meet_word
  meet_lower l = rw (ne_eqb (x / 2 ^ w) (y / 2 ^ w) (λ e. omega arith), le-ltb y x (omega (arith, smaller w x y l)))

  pub meet_higher : y / 2 ^ w < x / 2 ^ w → meet_word w x y ≡ y
  unfolding meet_word
  meet_higher l = rw (ne_eqb (x / 2 ^ w) (y / 2 ^ w) (λ e. omega arith), lt-ltb y x (smaller w y x l))
