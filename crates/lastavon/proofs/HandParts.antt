-- What a caller reads out of the first word: each part as it was put in, since no part lies over another.
-- Assumes nothing.
use mathlib.Core.Path.{◌≡◌}
use mathlib.Core.List.{List}
use Prim.Native.Nat.{ℕ, ◌/◌, ◌%◌, ◌^◌, ◌<◌}
use native.Mathlib.Omega.{arith}
use lib.ListN.{get_or}
use Rattle.tile.specs.Refusal.{index_of}
use Rattle.tile.specs.Hand.{hand_values, HandPromised}
use Rattle.tile.specs.declared.refusal.Reason.{Reason}
use Rattle.tile.specs.declared.one_hand.HandFound.{HandFound}
use Rattle.std.specs.Prelude.{Result, Ok, Err}
use Rattle.tile.proofs.Hand.{hand_small, hand_index}
use Rattle.lastavon.specs.Words.{words_of}

-- the first word of a has the number x, the kinds y, the live tiles z and the index i
pub record FirstWord (a : Result HandFound Reason) (x y z i : ℕ) : Type 0 where
  pub number : get_or (words_of a) 0 0 % 2 ^ 8 ≡ x
  pub kinds : get_or (words_of a) 0 0 / 2 ^ 8 % 2 ^ 8 ≡ y
  pub live : get_or (words_of a) 0 0 / 2 ^ 16 % 2 ^ 8 ≡ z
  pub index : get_or (words_of a) 0 0 / 2 ^ 24 ≡ i

-- each of one byte
answered : (r : HandFound) → r.number < 2 ^ 8 → r.kinds < 2 ^ 8 → r.live < 2 ^ 8 → FirstWord (Ok r) r.number r.kinds r.live 0
answered r a b c = record { number = omega arith; kinds = omega arith; live = omega arith; index = omega arith }

-- the index of one byte
refused : (q : Reason) → index_of q < 2 ^ 8 → FirstWord (Err q) 0 0 0 (index_of q)
refused q l = record { number = omega arith; kinds = omega arith; live = omega arith; index = omega arith }

-- and so it is for every answer that is promised
pub hand_parts : (game k : ℕ) (h : List ℕ) (a : Result HandFound Reason) → HandPromised game k h a
    → FirstWord a (hand_values a).found.number (hand_values a).found.kinds (hand_values a).found.live (hand_values a).index
hand_parts game k h (Ok r) p =
    let small = hand_small game k h r p in
    answered r (omega (arith, small.number)) (omega (arith, small.kinds)) (omega (arith, small.live))
hand_parts game k h (Err q) p = refused q (omega (arith, hand_index game k h q p))
