-- Fields: which bits of one cell stand at which bits of another (01 "Packed words"). A cell holds a number: a goal's value, or a word.
-- Assumes nothing.
use Rattle.std.specs.Prelude.{cond, List, [], ◌∷◌, ℕ, ◌+◌, ◌*◌, ◌/◌, ◌%◌, ◌^◌, eqb}

-- `width` bits of cell `from`, from its bit `low` on, stand in cell `to`, from its bit `shift` on
pub record Field : Type 0 where
  pub from : ℕ
  pub low : ℕ
  pub to : ℕ
  pub shift : ℕ
  pub width : ℕ

-- the way back
abbrev pub back : Field → Field
back f = record { from = f.to; low = f.shift; to = f.from; shift = f.low; width = f.width }

-- `width` bits of n, from bit `low` on
abbrev pub bits : ℕ → ℕ → ℕ → ℕ
bits n low width = n / 2 ^ low % 2 ^ width

-- what the fields make in cell j of what is in the cells x
abbrev pub made : List Field → (ℕ → ℕ) → ℕ → ℕ
made [] x j = 0
made (f ∷ fs) x j = cond (eqb f.to j) (bits (x f.from) f.low f.width * 2 ^ f.shift + made fs x j) (made fs x j)

-- how many bits of cell j the fields fill
abbrev pub filled : List Field → ℕ → ℕ
filled [] j = 0
filled (f ∷ fs) j = cond (eqb f.to j) (f.width + filled fs j) (filled fs j)
