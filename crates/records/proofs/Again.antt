-- What a reader takes out of an answer record: each part as it was put in, the sets whole, since a hand's set has 34 bits and five bytes have forty.
-- Assumes nothing.
use mathlib.Core.Path.{◌≡◌, refl}
use mathlib.Core.List.{List}
use Prim.Native.Nat.{ℕ, ◌+◌, ◌*◌, ◌/◌, ◌%◌, ◌^◌, ◌<◌}
use native.Mathlib.Omega.{arith}
use lib.ListN.{length, get_or}
use Rattle.tile.specs.Hand.{hand_values, HandPromised}
use Rattle.std.specs.Prelude.{Result, Ok, Err}
use Rattle.tile.specs.declared.refusal.Reason.{Reason}
use Rattle.tile.specs.declared.one_hand.HandFound.{HandFound}
use Rattle.tile.proofs.Hand.{hand_small}
use Rattle.records.specs.Record.{set_bytes, record_of}

-- the set whose five bytes begin at byte i
abbrev pub set_from : List ℕ → ℕ → ℕ
set_from y i = get_or y i 0 + get_or y (i + 1) 0 * 2 ^ 8 + get_or y (i + 2) 0 * 2 ^ 16 + get_or y (i + 3) 0 * 2 ^ 24 + get_or y (i + 4) 0 * 2 ^ 32

-- the bytes of a set, one by one: each is what its division leaves, and past the last nothing is left
bytes_again : (s : ℕ) → s < 2 ^ 34 → set_from (set_bytes s) 0 ≡ s
bytes_again s small =
    let a : s ≡ s % 2 ^ 8 + s / 2 ^ 8 * 2 ^ 8 = omega arith in
    let b : s / 2 ^ 8 ≡ s / 2 ^ 8 % 2 ^ 8 + s / 2 ^ 16 * 2 ^ 8 = omega arith in
    let c : s / 2 ^ 16 ≡ s / 2 ^ 16 % 2 ^ 8 + s / 2 ^ 24 * 2 ^ 8 = omega arith in
    let d : s / 2 ^ 24 ≡ s / 2 ^ 24 % 2 ^ 8 + s / 2 ^ 32 * 2 ^ 8 = omega arith in
    let e : s / 2 ^ 32 % 2 ^ 8 ≡ s / 2 ^ 32 = omega arith in
    omega (arith, a, b, c, d, e)

-- the parts of the record of a
pub record Parts (a : Result HandFound Reason) : Type 0 where
  pub long : length (record_of a) ≡ 16
  pub code : get_or (record_of a) 0 0 ≡ (hand_values a).code
  pub number : get_or (record_of a) 1 0 ≡ (hand_values a).found.number
  pub necessary : set_from (record_of a) 2 ≡ (hand_values a).found.necessary
  pub unnecessary : set_from (record_of a) 7 ≡ (hand_values a).found.unnecessary
  pub kinds : get_or (record_of a) 12 0 ≡ (hand_values a).found.kinds
  pub live : get_or (record_of a) 13 0 ≡ (hand_values a).found.live

-- for any answer that is promised
pub record_parts : (game k : ℕ) (h : List ℕ) (a : Result HandFound Reason) → HandPromised game k h a → Parts a
record_parts game k h (Err q) p =
    record { long = refl; code = refl; number = refl; necessary = refl; unnecessary = refl; kinds = refl; live = refl }
record_parts game k h (Ok r) p =
    let small = hand_small game k h r p in
    record { long = refl; code = refl; number = refl; necessary = bytes_again r.necessary small.necessary; unnecessary = bytes_again r.unnecessary small.unnecessary; kinds = refl; live = refl }
