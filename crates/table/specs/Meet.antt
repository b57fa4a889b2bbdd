-- An answer in one word: its number, times 2 to the power of w, and below it what goes with the number.
-- Assumes nothing.
use Rattle.std.specs.Prelude.{cond, ℕ, ◌/◌, ◌^◌, eqb, ltb}
use Rattle.std.specs.Int.Bits.{bit_or}

-- of two words the one with the smaller number, which is the smaller word; where the numbers are equal, what goes with either (`update_min` of the
-- Rust source)
unfoldable pub meet_word : ℕ → ℕ → ℕ → ℕ
meet_word w x y = cond (eqb (x / 2 ^ w) (y / 2 ^ w)) (bit_or x y) (cond (ltb y x) y x)
