-- The hand's answer: the four suits' right answers, merged, are the right answer of the whole hand, in both games.
-- Assumes nothing.
use mathlib.Core.Path.{◌≡◌, refl, sym, subst, subst₂}
use mathlib.Core.Bool.{Bool, true, false}
use mathlib.Core.List.{List}
use Prim.Native.Nat.{ℕ, ◌+◌, ◌*◌, ◌≤◌}
use native.Mathlib.Nat.{mul-one, le_refl}
use native.Mathlib.Omega.{arith}
use lib.ListN.{get_or, take, drop}
use Rattle.tile.specs.Board.{Board, ranks, honours, ends, whole4, whole3}
use Rattle.tile.specs.Target.{Target}
use Rattle.tile.specs.Answer.{Answer}
use Rattle.tile.specs.Suit.{blank, Right}
use Rattle.tile.specs.Suit.Right.{answer, no_target}
use Rattle.tile.specs.Goals.{AllRight}
use Rattle.tile.specs.Suits.{suits_of, whole_of, place_of}
use Rattle.tile.specs.declared.found.Found.{Found}
use Rattle.tile.proofs.Parts.{two_parts, next_part}
use Rattle.tile.proofs.Beside.{Beside}
use Rattle.tile.proofs.Whole.{row_beside}
use Rattle.tile.proofs.Places.{part_at}
use Rattle.tile.proofs.Suit.{right_some}
use Rattle.walk.proofs.Right.{ranks_some, honours_some, ends_some}
use Rattle.merge.specs.Merge.{merged, lifted, suit_at, hand_merged}
use Rattle.merge.proofs.Best.{RightFor, right_once}
use Rattle.merge.proofs.Right.{FoundRight, MergedRight, Known, Full, merged_right, answers_merged}
use Rattle.merge.proofs.Right.Known.{known, stands}
use Rattle.merge.proofs.Full.{full_ranks}

-- ---- the boards of the suits taken together

-- the first n kinds of a board
abbrev firsts : ℕ → Board → Board
firsts n b = record { kinds = n; held = b.held; starts = b.starts }

-- m and p, these and s, these and z lie side by side; `suit` is m's board and `whole` that of all tiles
record Sides (suit whole : Board) : Type 0 where
  mp : Beside (firsts 9 suit) ranks (firsts 18 whole)
  mps : Beside (firsts 18 whole) ranks (firsts 27 whole)
  mpsz : Beside (firsts 27 whole) honours (firsts 34 whole)

four_player : Sides ranks whole4
four_player =
    record {
      mp = row_beside ranks ranks (firsts 18 whole4) tt;
      mps = row_beside (firsts 18 whole4) ranks (firsts 27 whole4) tt;
      mpsz = row_beside (firsts 27 whole4) honours whole4 tt;
    }

three_player : Sides ends whole3
three_player =
    record {
      mp = row_beside ends ranks (firsts 18 whole3) tt;
      mps = row_beside (firsts 18 whole3) ranks (firsts 27 whole3) tt;
      mpsz = row_beside (firsts 27 whole3) honours whole3 tt;
    }

-- ---- the suits

-- the ten goals by their pairs and melds
right_at : {b : Board} {h : List ℕ} {e : List Found} {p m : ℕ} → AllRight b h e → p ≤ 1 → m ≤ 4 → Right b 14 p m h (get_or e (5 * p + m) blank)
right_at {b} {h} {e} {p} {m} all l k =
    subst₂ (λ (q j : ℕ). Right b 14 q j h (get_or e (5 * p + m) blank)) (omega arith) (omega arith) (all.each (5 * p + m) (omega arith))

-- the suit at the start of the tiles: for a goal without a target its answer, 14 and empty sets, stands in
first_known : {b : Board} {p m : ℕ} {h : List ℕ} {r : Found} → Right b 14 p m h r → Known b 14 p m h (lifted 0 r)
unfolding lifted
first_known {b} {p} {m} {h} {r} (answer x) =
    known (subst₂ (Answer b.kinds (Target b p m) h r.number) (sym (mul-one r.necessary)) (sym (mul-one r.unnecessary)) x)
first_known (no_target none e) = stands none (rw e (record { large = le_refl 14; bare = λ q. (refl, refl) }))

-- a suit all of whose goals have a target
all_answers : {b : Board} {h : List ℕ} {e : List Found} → ((p m : ℕ) → p ≤ 1 → m ≤ 4 → (t : List ℕ) × Target b p m t) → AllRight b h e
    → (p m : ℕ) → p ≤ 1 → m ≤ 4 → FoundRight b p m h (get_or e (5 * p + m) blank)
all_answers some all p m l k = let (t, tg) = some p m l k in right_some tg (right_at all l k)

-- ---- the suits one after another: m and p, these and s, these and z

module _ (suit whole : Board) (sides : Sides suit whole) (bare : (q : ℕ) → q ≤ 1 → (t : List ℕ) × Target (firsts 9 suit) q 0 t)
    (h : List ℕ) (m p s z : List Found) (on-m : (q j : ℕ) → q ≤ 1 → j ≤ 4 → Known (firsts 9 suit) 14 q j (take 9 h) (suit_at 0 m q j))
    (on-p : AllRight ranks (take 9 (drop 9 h)) p) (on-s : AllRight ranks (take 9 (drop 18 h)) s) (on-z : AllRight honours (take 7 (drop 27 h)) z)
  where
    two : (q j : ℕ) → q ≤ 1 → j ≤ 4 → MergedRight (firsts 18 whole) q j h (merged (suit_at 0 m) (suit_at 9 p) q j)
    unfolding suit_at
    two q j one four =
        merged_right sides.mp (two_parts 9 9 h) 14 q j (omega arith) (λ a n l k. all_answers (λ p m l k. ranks_some p m l (omega arith)) on-p a n (omega arith) (omega arith))
        (λ a l. bare a (omega arith)) (λ e a l. let f : 4 ≡ j = omega arith in subst (λ (n : ℕ). Full ranks a n) f (full_ranks a (omega arith)))
        (λ a n l k. on-m a n (omega arith) (omega arith))

    three : (q j : ℕ) → q ≤ 1 → j ≤ 4 → MergedRight (firsts 27 whole) q j h (merged (merged (suit_at 0 m) (suit_at 9 p)) (suit_at 18 s) q j)
    unfolding suit_at
    three q j one four =
        answers_merged sides.mps (next_part 18 9 h) q j (λ a n l k. all_answers (λ p m l k. ranks_some p m l (omega arith)) on-s a n (omega arith) (omega arith))
        (λ a n l k. two a n (omega arith) (omega arith))

    all : (k : ℕ) → k ≤ 4 → MergedRight (firsts 34 whole) 1 k h (hand_merged m p s z k)
    unfolding suit_at hand_merged
    all k four =
        answers_merged sides.mpsz (next_part 27 7 h) 1 k (λ a n l k. all_answers (λ p m l k. honours_some p m l (omega arith)) on-z a n (omega arith) (omega arith))
        (λ a n l k. three a n (omega arith) (omega arith))

-- ---- the two games

-- m's board: nine ranks, or 1m/9m where there are three players
abbrev pub suit_m : Bool → Board
suit_m three-players = get_or (suits_of three-players) 0 ranks

-- m's goals are known: each has its right answer, or no target and a stand-in
abbrev pub FirstKnown : Bool → List ℕ → List Found → Type 0
FirstKnown three-players h m = (q j : ℕ) → q ≤ 1 → j ≤ 4 → Known (suit_m three-players) 14 q j (part_at (place_of 0) h) (suit_at 0 m q j)

-- right answers, and stand-ins for m's goals without a target, give the right answer of the hand
hand_known : (three-players : Bool) (h : List ℕ) (k : ℕ) → k ≤ 4 → (m p s z : List Found) → FirstKnown three-players h m
    → AllRight ranks (part_at (place_of 1) h) p → AllRight ranks (part_at (place_of 2) h) s → AllRight honours (part_at (place_of 3) h) z
    → RightFor 34 (Target (whole_of three-players) 1 k) h (hand_merged m p s z k)
hand_known false h k l m p s z on-m on-p on-s on-z = all ranks whole4 four_player (λ q l. ranks_some q 0 l (omega arith)) h m p s z on-m on-p on-s on-z k l
hand_known true h k l m p s z on-m on-p on-s on-z = all ends whole3 three_player (λ q l. (ends_some q 0 l).1 (omega arith)) h m p s z on-m on-p on-s on-z k l

module _ (three-players : Bool) (h : List ℕ) (k : ℕ) (at_most : k ≤ 4) (m p s z : List Found) where
  -- the right answers of the four suits, merged, are the right answer of the hand
  pub hand_right : AllRight (suit_m three-players) (part_at (place_of 0) h) m → AllRight ranks (part_at (place_of 1) h) p
      → AllRight ranks (part_at (place_of 2) h) s → AllRight honours (part_at (place_of 3) h) z
      → RightFor 34 (Target (whole_of three-players) 1 k) h (hand_merged m p s z k)
  unfolding suit_at
  hand_right on-m = hand_known three-players h k at_most m p s z (λ q j l k. first_known (right_at on-m l k))

  -- the goals of 1m/9m that have no target never change a result: whatever stands for them, a number above 14 or 14 with empty sets, it is the same
  pub hand_alike : (m' : List Found) → FirstKnown three-players h m → FirstKnown three-players h m' → AllRight ranks (part_at (place_of 1) h) p
      → AllRight ranks (part_at (place_of 2) h) s → AllRight honours (part_at (place_of 3) h) z → hand_merged m p s z k ≡ hand_merged m' p s z k
  hand_alike m' on-m on-m' on-p on-s on-z =
      right_once (hand_known three-players h k at_most m p s z on-m on-p on-s on-z) (hand_known three-players h k at_most m' p s z on-m' on-p on-s on-z)
