-- How the merge reads, on entries made up for it: where each suit's sets come to lie, what an idle suit gives, and what a tie does.
-- Assumes nothing.
use mathlib.Core.Path.{◌≡◌, refl}
use mathlib.Core.List.{List, [], ◌∷◌}
use Prim.Native.Nat.{ℕ, ◌+◌, ◌*◌, ◌^◌}
use Rattle.tile.specs.declared.found.Found.{Found}
use Rattle.merge.specs.Merge.{beside, better, best_to, merged, lifted, suit_at, hand_merged}

abbrev found : ℕ → ℕ → ℕ → Found
found number necessary unnecessary = record { number = number; necessary = necessary; unnecessary = unnecessary }

-- an entry of which only three goals are near: nothing (0), one meld (1), one pair (5)
abbrev near : Found → Found → Found → List Found
near none meld pair = none ∷ meld ∷ far ∷ far ∷ far ∷ pair ∷ far ∷ far ∷ far ∷ far ∷ []
  where
    far : Found
    far = found 14 0 0

-- The meld is best in p and the pair in s; m and z stay idle, and what they give for nothing is unnecessary too.
-- Sets of m, p, s and z start at bit 0, 9, 18 and 27.
one_each : hand_merged (near (found 0 0 1) (found 3 7 7) (found 2 7 7)) (near (found 0 0 6) (found 1 4 2) (found 2 7 7))
    (near (found 0 0 6) (found 3 7 7) (found 1 1 8)) (near (found 0 0 3) (found 3 7 7) (found 2 7 7)) 1
    ≡ record { number = 2; necessary = 4 * 2 ^ 9 + 1 * 2 ^ 18; unnecessary = 1 + 2 * 2 ^ 9 + 8 * 2 ^ 18 + 3 * 2 ^ 27 }
unfolding beside better best_to merged lifted suit_at hand_merged
one_each = refl

-- The pair is as good in m as in z: the sets of both ways united, each with what the other suits give for nothing.
tie : hand_merged (near (found 0 0 1) (found 14 0 0) (found 1 2 4)) (near (found 0 0 1) (found 14 0 0) (found 2 7 7))
    (near (found 0 0 2) (found 14 0 0) (found 2 7 7)) (near (found 0 0 4) (found 14 0 0) (found 1 1 2)) 0
    ≡ record { number = 1; necessary = 2 + 1 * 2 ^ 27; unnecessary = (1 + 4) + 1 * 2 ^ 9 + 2 * 2 ^ 18 + (2 + 4) * 2 ^ 27 }
unfolding beside better best_to merged lifted suit_at hand_merged
tie = refl
