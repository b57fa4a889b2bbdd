-- The walk run inside the prover: 01's entry 0 of 1m/9m, and one suit of nine ranks.
-- Assumes nothing.
use mathlib.Core.Path.{◌≡◌, refl}
use mathlib.Core.List.{[], ◌∷◌}
use Prim.Native.Nat.{ℕ}
use lib.ListN.{replicate}
use Rattle.tile.specs.Count.{more, lack_to, bit, set_to, beyond_to}
use Rattle.tile.specs.Board.{ranks, ends}
use Rattle.walk.specs.Walk.{laid, up_to, alone, join, tried, walk, searched}

-- the number of p pairs and m melds with nothing held
number_of : ℕ → ℕ → ℕ
number_of p m = (searched ends (replicate 9 0) 14 p m).number

-- 14 where 1m/9m have no target
entry_0 : (number_of 0 0 ∷ number_of 0 1 ∷ number_of 0 2 ∷ number_of 0 3 ∷ number_of 0 4 ∷ number_of 1 0 ∷ number_of 1 1 ∷ number_of 1 2 ∷ number_of 1 3 ∷ number_of 1 4 ∷ [])
    ≡ 0 ∷ 3 ∷ 6 ∷ 14 ∷ 14 ∷ 2 ∷ 5 ∷ 14 ∷ 14 ∷ 14 ∷ []
unfolding number_of searched walk tried up_to join alone laid lack_to beyond_to more set_to bit
entry_0 = refl

-- ranks 1, 2 and 9 held once and one meld wanted: rank 3 is lacked, and rank 9 is of no use
one_meld : searched ranks (1 ∷ 1 ∷ 0 ∷ 0 ∷ 0 ∷ 0 ∷ 0 ∷ 0 ∷ 1 ∷ []) 14 0 1 ≡ record { number = 1; necessary = 4; unnecessary = 256 }
unfolding searched walk tried up_to join alone laid lack_to beyond_to more set_to bit
one_meld = refl
