-- In a game that is known a hand has the faults that any counts have, and what is promised for it follows.
-- Assumes nothing.
use mathlib.Core.Path.{◌≡◌, refl}
use mathlib.Core.Bool.{Bool, true, false}
use mathlib.Core.List.{List}
use Prim.Native.Nat.{ℕ}
use Rattle.std.specs.Prelude.{Ok}
use Rattle.tile.specs.Board.{Board, whole3, whole4}
use Rattle.tile.specs.Refusal.{Faultless, SuitFault}
use Rattle.tile.specs.Suits.{whole_of, game_of}
use Rattle.tile.specs.Hand.{Unknown, HandRight, HandPromised}
use Rattle.tile.specs.declared.one_hand.HandFound.{HandFound}
use Rattle.tile.proofs.Accepted.{fault_as}

module _ (k : ℕ) (h : List ℕ) (r : HandFound) where
  answered : (three_player : Bool) → Faultless (SuitFault (whole_of three_player) 1 k h) → HandRight (whole_of three_player) k h r
      → HandPromised (game_of three_player) k h (Ok r)
  answered false none right = (λ q x. none q (fault_as whole4 1 k h (λ (unknown : Unknown 4). unknown.1 refl) q x), right)
  answered true none right = (λ q x. none q (fault_as whole3 1 k h (λ (unknown : Unknown 3). unknown.0 refl) q x), right)

  pub answered_in : (three_player : Bool) {b : Board} {game : ℕ} → b ≡ whole_of three_player → game ≡ game_of three_player
      → Faultless (SuitFault b 1 k h) → HandRight (whole_of three_player) k h r → HandPromised game k h (Ok r)
  answered_in three_player all known none right = rw known (answered three_player (rw (← all) none) right)
