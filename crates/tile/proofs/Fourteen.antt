-- For four melds and a pair the number is 14 only where nothing is held: every tile of a game is in some target.
-- (14 is also what stands for a goal of 1m/9m without a target, 01 "One suit".)
-- Assumes nothing.
use mathlib.Core.Path.{◌≡◌, subst}
use mathlib.Core.Bool.{Bool, true, false}
use mathlib.Core.Logic.{⊎_elim}
use mathlib.Core.List.{List}
use Prim.Native.Nat.{ℕ, ◌+◌, ◌-◌, ◌≤◌, ◌<◌}
use native.Mathlib.Omega.{arith}
use lib.ListN.{length, get_or, replicate}
use lib.Dec.{T, lit<, ltb, leb, ltb→lt}
use Rattle.tile.specs.Count.{copies, more}
use Rattle.tile.specs.Board.{may_hold}
use Rattle.tile.specs.Target.{Built, Target}
use Rattle.tile.specs.Target.Built.{nothing, pair, triplet}
use Rattle.tile.specs.Suits.{whole_of}
use Rattle.tile.specs.Hand.{HandRight}
use Rattle.tile.specs.declared.one_hand.HandFound.{HandFound}
use Rattle.tile.proofs.Tests.{at_most_or_over, and_parts, all_to, all_to_lem}
use Rattle.tile.proofs.Counts.{more_at, few_by}
use Rattle.tile.proofs.Built.{built_length}
use Rattle.tile.proofs.Size.{number_most}
use Rattle.tile.proofs.Hand.{whole_kinds}

-- three triplets and a pair, of four tiles from a on
others : ℕ → List ℕ
others a = more (more (more (more (replicate 34 0) (a + 3) 2) (a + 2) 3) (a + 1) 3) a 3

-- from 1z on for a tile of m, p and s, from 1p on for an honour
others_built : (three_player : Bool) → Built (whole_of three_player) 1 3 (others 27) × Built (whole_of three_player) 1 3 (others 9)
unfolding others
others_built false = (
  triplet 27 (lit< tt) tt (triplet 28 (lit< tt) tt (triplet 29 (lit< tt) tt (pair 30 (lit< tt) tt nothing))),
  triplet 9 (lit< tt) tt (triplet 10 (lit< tt) tt (triplet 11 (lit< tt) tt (pair 12 (lit< tt) tt nothing))),
)
others_built true = (
  triplet 27 (lit< tt) tt (triplet 28 (lit< tt) tt (triplet 29 (lit< tt) tt (pair 30 (lit< tt) tt nothing))),
  triplet 9 (lit< tt) tt (triplet 10 (lit< tt) tt (triplet 11 (lit< tt) tt (pair 12 (lit< tt) tt nothing))),
)

-- a triplet of tile i besides is still few of each, by a computed test
abbrev few_with : ℕ → ℕ → Bool
few_with a i = all_to (length (more (others a) i 3)) (λ j. leb (get_or (more (others a) i 3) j 0) copies)

few_27 : T (all_to 27 (few_with 27))
unfolding others more
few_27 = tt

few_9 : T (all_to 7 (λ j. few_with 9 (27 + j)))
unfolding others more
few_9 = tt

module _ (three_player : Bool) (i : ℕ) (may : T (may_hold (whole_of three_player) i)) where
  inside : i < (whole_of three_player).kinds
  inside = ltb→lt i (whole_of three_player).kinds (and_parts (ltb i (whole_of three_player).kinds) ((whole_of three_player).held i) may).0

  -- a target that holds tile i
  with_tile : (a : ℕ) → Built (whole_of three_player) 1 3 (others a) → T (few_with a i) → (t : List ℕ) × Target (whole_of three_player) 1 4 t × (0 < get_or t i 0)
  with_tile a rest few = (
    more (others a) i 3,
    record {
      built = triplet i inside (and_parts (ltb i (whole_of three_player).kinds) ((whole_of three_player).held i) may).1 rest;
      few = few_by (more (others a) i 3) few;
    },
    omega (arith, more_at (others a) i 3 (omega (arith, inside, built_length rest))),
  )

  some_with : (t : List ℕ) × Target (whole_of three_player) 1 4 t × (0 < get_or t i 0)
  some_with =
      let (z, p) = others_built three_player in
      ⊎_elim
      (λ (over : 27 ≤ i).
      let e : 27 + (i - 27) ≡ i = omega arith in
      with_tile 9 p (subst (λ (k : ℕ). T (few_with 9 k)) e (all_to_lem 7 (λ j. few_with 9 (27 + j)) few_9 (i - 27) (omega (arith, inside, whole_kinds three_player)))))
      (λ under. with_tile 27 z (all_to_lem 27 (few_with 27) few_27 i under)) (at_most_or_over 27 i)

  pub fourteen_empty : {h : List ℕ} {r : HandFound} → HandRight (whole_of three_player) 4 h r → r.number ≡ 14 → get_or h i 0 ≡ 0
  fourteen_empty right e = let (t, tg, held) = some_with in number_most right.answer.number (omega arith) tg i inside held
