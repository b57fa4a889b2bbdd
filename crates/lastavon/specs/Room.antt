-- Room that a caller lends for words: what is returned, and what stands there then.
-- Assumes nothing.
use Rattle.std.specs.Prelude.{◌≡◌, List, ℕ, length}

-- c is returned, and y stands where x stood: what is told; or, where x is not n words, 8 and x as it was (01 "Refusal numbers")
pub data Room (n : ℕ) (Told : ℕ → List ℕ → Type 0) (x : List ℕ) (c : ℕ) (y : List ℕ) : Type 0 where
  told : length x ≡ n → Told c y → Room n Told x c y
  left : (length x ≡ n → ⊥) → c ≡ 8 → y ≡ x → Room n Told x c y
