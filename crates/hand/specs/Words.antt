-- Answers in words, as the code merges them: each word has one set in its low 36 bits, nine for each of the four suits, and above it the number.
-- Assumes nothing.
use Rattle.std.specs.Prelude.{ℕ, zero, suc, ◌+◌, ◌-◌, ◌*◌, ◌^◌}
use Rattle.table.specs.Meet.{meet_word}
use Rattle.merge.specs.declared.Merged.{Merged}
use Rattle.hand.specs.declared.packed.Packed.{Packed}

unfoldable pub packed : Merged → Packed
packed r = record { necessary = r.number * 2 ^ 36 + r.necessary; unnecessary = r.number * 2 ^ 36 + r.unnecessary }

-- `beside`: the sets of two suits have no bit in common, and so the sum of two words has the sum of the numbers and the tiles of both
abbrev pub sum : Packed → Packed → Packed
sum x y = record { necessary = x.necessary + y.necessary; unnecessary = x.unnecessary + y.unnecessary }

-- `better`, each word for itself
abbrev pub meet : ℕ → ℕ → ℕ
meet = meet_word 36

abbrev pub meets : Packed → Packed → Packed
meets x y = record { necessary = meet x.necessary y.necessary; unnecessary = meet x.unnecessary y.unnecessary }

-- `best_to`
unfoldable pub meet_to : (ℕ → Packed) → ℕ → Packed
meet_to f zero = f 0
meet_to f (suc n) = meets (meet_to f n) (f (suc n))

-- `shared`
abbrev pub sum_at : (ℕ → Packed) → (ℕ → Packed) → ℕ → ℕ → Packed
sum_at A C m j = sum (A j) (C (m - j))
