-- What a suit is answered can always be packed: the right answers of the ten goals fit the seven words.
-- Assumes nothing.
use mathlib.Core.Path.{◌≡◌, ap}
use mathlib.Core.Logic.{⊎_elim}
use mathlib.Core.Bool.{Bool, not, ◌||◌}
use mathlib.Core.List.{List}
use Prim.Native.Nat.{ℕ, zero, suc, ◌+◌, ◌*◌, ◌/◌, ◌%◌, ◌^◌, ◌≤◌, ◌<◌}
use native.Mathlib.Nat.{lt_of_lt_of_le}
use native.Mathlib.Omega.{arith}
use lib.Dec.{T, leb, ltb, leb→le, lt→ltb}
use lib.Pow.{pow_mono}
use Rattle.tile.specs.Board.{Board}
use Rattle.tile.specs.Target.{Target}
use Rattle.tile.specs.Suit.{Right, board_of}
use Rattle.tile.specs.Suit.Right.{answer, no_target}
use Rattle.tile.specs.Goals.{AllRight}
use Rattle.tile.specs.Refusal.{most_tiles}
use Rattle.tile.specs.declared.found.Found.{Found}
use Rattle.tile.specs.declared.one_suit.Suit.{Suit}
use Rattle.tile.specs.declared.one_suit.Suit.TheVariants.{Ranks, Honours, Ends}
use Rattle.tile.proofs.Size.{number_at_most}
use Rattle.tile.proofs.Suit.{right_small, right_nothing}
use Rattle.tile.proofs.Tests.{at_most_or_over, implied, all_to, all_to_lem}
use Rattle.walk.proofs.Right.{ranks_some, honours_some, ends_some}
use Rattle.words.specs.declared.packed.Packed.{Packed}
use Rattle.words.specs.Layout.{Value, Number, Necessary, Unnecessary, seven_words}
use Rattle.words.specs.Limit.{most}
use Rattle.words.specs.Packing.{value_of, Fits, word_by}
use Rattle.words.specs.Promise.{seven, PackedFrom}
use Rattle.words.proofs.Fitting.{within_fits, set_room}
use Rattle.words.proofs.Held.{packed}
use Rattle.words.proofs.Seven.{holder}

-- a board of at most nine kinds on which every goal of at most two pairs and melds has a target
record Suitable (b : Board) : Type 0 where
  nine : b.kinds ≤ 9
  some : (p m : ℕ) → p ≤ 1 → p + m ≤ 2 → (t : List ℕ) × Target b p m t

suitable : (s : Suit) → Suitable (board_of s)
suitable Ranks = record { nine = omega arith; some = λ p m one two. ranks_some p m one (omega arith) }
suitable Honours = record { nine = omega arith; some = λ p m one two. honours_some p m one (omega arith) }
suitable Ends = record { nine = omega arith; some = λ p m one two. (ends_some p m one).1 two }

-- ---- there is room

-- for all that a target may lack
lack_room : (i : ℕ) → i < 10 → 3 * (i % 5) + 2 * (i / 5) ≤ most Number i
lack_room i u = leb→le _ _ (all_to_lem 10 (λ i. leb (3 * (i % 5) + 2 * (i / 5)) (most Number i)) tt i u)

-- where a test passes, the limit is at least n: computed once for the ten goals
where_tested : (test : ℕ → Bool) (n : ℕ) (v : Value) → T (all_to 10 (λ i. not (test i) || leb n (most v i))) → (i : ℕ) → i < 10 → T (test i) → n ≤ most v i
where_tested test n v t i u h = leb→le _ _ (implied (test i) (leb n (most v i)) (all_to_lem 10 (λ i. not (test i) || leb n (most v i)) t i u) h)

-- for 14, where there may be no target
bound_room : (i : ℕ) → i < 10 → 2 < i / 5 + i % 5 → most_tiles ≤ most Number i
bound_room i u h = where_tested (λ i. ltb 2 (i / 5 + i % 5)) most_tiles Number tt i u (lt→ltb 2 (i / 5 + i % 5) h)

-- ---- so a right answer fits

module _ {b : Board} (s : Suitable b) where
  small : {x : ℕ} → x < 2 ^ b.kinds → x ≤ 0x1FF
  small l = omega (arith, lt_of_lt_of_le l (pow_mono s.nine))

  fits : {h : List ℕ} {r : Found} (v : Value) (i : ℕ) → i < 10 → Right b most_tiles (i / 5) (i % 5) h r → value_of v r ≤ most v i
  fits Number i u (answer a) = omega (arith, number_at_most a.number, lack_room i u)
  fits Number i u (no_target none e) =
      ⊎_elim (λ two. let (t, tg) = s.some (i / 5) (i % 5) (omega arith) two in absurd (none t tg))
      (λ more. omega (arith, bound_room i u more, ap (λ (f : Found). f.number) e)) (at_most_or_over (i / 5 + i % 5) 2)
  fits Necessary zero u w = omega (arith, (right_nothing w).1)
  fits Necessary (suc i) u w = omega (arith, small (right_small w).0, set_room i (omega arith))
  fits Unnecessary i u w = small (right_small w).1

pub answers_fit : (s : Suit) (h : List ℕ) (r : List Found) → AllRight (board_of s) h r → Fits seven_words r
answers_fit s h r a = within_fits most seven_words tt r a.ten (λ i u. record { each = λ v. fits (suitable s) v i u (a.each i u) })

-- what is answered is packed, never refused
pub answers_packed : (s : Suit) (h : List ℕ) (r : List Found) (p : Packed) → AllRight (board_of s) h r → PackedFrom r p
    → p ≡ record { code = 0; words = seven (word_by seven_words r) }
answers_packed s h r p a q = let (c, w) = packed seven_words holder (answers_fit s h r a) q in λ i. record { code = c i; words = w i }
