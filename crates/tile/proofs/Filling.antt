-- Loops that fill an array from its start: what holds of it as a loop goes on, and at its end.
-- Assumes nothing.
use mathlib.Core.Path.{◌≡◌}
use mathlib.Core.List.{List}
use Prim.Native.Nat.{ℕ, ◌≤◌, ◌<◌}
use native.Mathlib.Omega.{arith}
use lib.ListN.{length, get_or}

-- x has n places, and of what stands at those below i, each k, P k holds; d stands past the end
pub record Filled {A : Type 0} (d : A) (n : ℕ) (P : ℕ → A → Type 0) (i : ℕ) (x : List A) : Type 0 where
  pub within : i ≤ n
  pub long : length x ≡ n
  pub each : (k : ℕ) → k < i → P k (get_or x k d)

module _ {A : Type 0} {d : A} {n : ℕ} {P : ℕ → A → Type 0} {x : List A} where
  pub filled_all : {i : ℕ} → n ≤ i → Filled d n P i x → (k : ℕ) → k < n → P k (get_or x k d)
  filled_all end p k l = p.each k (omega arith)
