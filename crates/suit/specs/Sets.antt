-- What the functions on a target and a hand ask of them.
-- Assumes nothing.
use Rattle.std.specs.Prelude.{List, ℕ, ◌≤◌, length}

-- both lists have the first n kinds, and a suit has at most nine
abbrev pub Spans : ℕ → List ℕ → List ℕ → Type 0
Spans n a b = (n ≤ 9) × (n ≤ length a) × (n ≤ length b)
