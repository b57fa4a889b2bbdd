-- The ends of the walk without its cuts: what the choices, each where it fits, can make of a target.
-- Assumes nothing.
use Rattle.std.specs.Prelude.{◌≡◌, List, ℕ, zero, suc, ◌+◌, ◌-◌, ◌<◌, T}
use Rattle.tile.specs.Board.{Board}
use Rattle.walk.specs.Choice.{pairs_of, melds_of}
use Rattle.walk.specs.Walk.{choices_at, fits, laid}

module _ (b : Board) where
  -- u is a target at which the walk without cuts ends, from rank i with l ranks to go
  unfoldable pub Leaf : ℕ → ℕ → ℕ → ℕ → List ℕ → List ℕ → Type 0
  Leaf zero i p m t u = (p ≡ 0) × (m ≡ 0) × (u ≡ t)
  Leaf (suc l) i p m t u =
      (c : ℕ) × (c < choices_at b i) × (T (fits p m t i c) × Leaf l (i + 1) (p - pairs_of c) (m - melds_of c) (laid t i c) u)
