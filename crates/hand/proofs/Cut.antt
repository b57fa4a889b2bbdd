-- The parts of a hand without a fault have none either, so that the ten goals of each suit are right.
-- Assumes nothing.
use mathlib.Core.Path.{◌≡◌, refl, ap, subst, ◌∙◌}
use mathlib.Core.Logic.{⊎_elim}
use mathlib.Core.Bool.{Bool, true, false, not, ◌||◌}
use mathlib.Core.List.{List}
use Prim.Native.Nat.{ℕ, ◌+◌, ◌≤◌, ◌<◌}
use native.Mathlib.Nat.{eq-zero-or-pos}
use native.Mathlib.Omega.{arith}
use lib.ListN.{length, get_or, take, drop, length-drop, get_or-eq_default}
use lib.Seq.{length-take-le}
use lib.Dec.{T}
use Rattle.std.specs.Prelude.{Result, Ok, Err, IsOk}
use Rattle.tile.specs.Count.{sum_to}
use Rattle.tile.specs.Board.{Board, ranks, honours, ends, whole3}
use Rattle.tile.specs.Refusal.{Faultless, SuitFault}
use Rattle.tile.specs.Suits.{whole_of}
use Rattle.tile.specs.Goals.{GoalsFor, AllRight}
use Rattle.tile.specs.declared.found.Found.{Found}
use Rattle.tile.specs.declared.refusal.Reason.{Reason}
use Rattle.tile.proofs.Hand.{whole_kinds}
use Rattle.tile.proofs.Accepted.{Accepted, accepted, faultless}
use Rattle.tile.proofs.Counts.{held_inside, sum_further, sum_from}
use Rattle.tile.proofs.Parts.{part_at}
use Rattle.tile.proofs.Tests.{at_most_or_over, implied, all_to_lem}
use Rattle.merge.proofs.Game.{suit_m}

-- what is promised for a suit without a fault is that all is right
pub goals_there : (b : Board) (h : List ℕ) (r : Result (List Found) Reason) → Faultless (SuitFault b 0 0 h) → GoalsFor b h r → IsOk r
goals_there b h (Ok r) none promised = refl
goals_there b h (Err q) none first = absurd (none q first.holds)

-- ---- a part of the counts

module _ (o n : ℕ) (h : List ℕ) (inside : o + n ≤ length h) where
  abbrev part : List ℕ
  part = take n (drop o h)

  part_long : length part ≡ n
  part_long = length-take-le n (drop o h) (omega (arith, length-drop o h))

  part_most : (i : ℕ) → get_or part i 0 ≤ get_or h (o + i) 0
  part_most i =
      ⊎_elim (λ over. rw (get_or-eq_default part 0 {n = i} (omega (arith, part_long))) (omega arith))
      (λ under. rw (part_at o n h i under) (omega arith)) (at_most_or_over n i)

  part_sum : sum_to n part ≤ sum_to (length h) h
  part_sum = omega (arith, sum_from o n part h part_most, sum_further (o + n) (length h) h inside)

-- ---- no fault

-- a hand without a fault on the board `all`; b lies there from o on, and what may not be held on b may not be held there
module _ {all : Board} {k : ℕ} {h : List ℕ} (ok : Accepted all 1 k h) (b : Board) (o : ℕ) (inside : o + b.kinds ≤ length h)
    (barred : (i : ℕ) → i < b.kinds → T (not (b.held i)) → T (not (all.held (o + i)))) where
  abbrev cut : List ℕ
  cut = take b.kinds (drop o h)

  cut_long : length cut ≡ b.kinds
  cut_long = part_long o b.kinds h inside

  most : (i : ℕ) → get_or cut i 0 ≤ get_or h (o + i) 0
  most = part_most o b.kinds h inside

  pub part_accepted : Accepted b 0 0 cut
  part_accepted =
      record {
        long = cut_long;
        few = λ i. omega (arith, most i, ok.few (o + i));
        pairs = omega arith;
        melds = omega arith;
        sum = omega (arith, part_sum o b.kinds h inside, ok.sum, ap (λ (n : ℕ). sum_to n cut) cut_long);
        held = held;
      }
    where
      held : (i : ℕ) → T (not (b.held i)) → get_or cut i 0 ≡ 0
      held i out =
          ⊎_elim (λ none. none) (λ some. omega (arith, most i, ok.held (o + i) (barred i (omega (arith, held_inside cut i some, cut_long)) out)))
          (eq-zero-or-pos (get_or cut i 0))

-- ---- the parts of both games

-- the first suit of the three-player game is 1m/9m, and what may not be held there are 2m to 8m
m_barred : (three_player : Bool) (i : ℕ) → i < (suit_m three_player).kinds → T (not ((suit_m three_player).held i)) → T (not ((whole_of three_player).held (0 + i)))
m_barred false i l out = out
m_barred true i l out = implied (not (ends.held i)) (not (whole3.held (0 + i))) (all_to_lem 9 (λ i. not (not (ends.held i)) || not (whole3.held (0 + i))) tt i l) out

-- what is right for each suit of a hand
pub record AllSuits (three_player : Bool) (h : List ℕ) (m p s z : List Found) : Type 0 where
  pub in_m : AllRight (suit_m three_player) (take 9 (drop 0 h)) m
  pub in_p : AllRight ranks (take 9 (drop 9 h)) p
  pub in_s : AllRight ranks (take 9 (drop 18 h)) s
  pub in_z : AllRight honours (take 7 (drop 27 h)) z

pub m_kinds : (b : Bool) → (suit_m b).kinds ≡ 9
m_kinds false = refl
m_kinds true = refl

module _ (three_player : Bool) (k : ℕ) (h : List ℕ) (none : Faultless (SuitFault (whole_of three_player) 1 k h)) where
  ok : Accepted (whole_of three_player) 1 k h
  ok = accepted none

  pub hand_long : length h ≡ 34
  hand_long = ok.long ∙ whole_kinds three_player

  none_in : (b : Board) (o : ℕ) → o + b.kinds ≤ 34 → ((i : ℕ) → i < b.kinds → T (not (b.held i)) → T (not ((whole_of three_player).held (o + i))))
      → Faultless (SuitFault b 0 0 (take b.kinds (drop o h)))
  none_in b o inside barred = faultless (λ (unknown : ⊥). unknown) (part_accepted ok b o (omega (arith, inside, hand_long)) barred)

  pub none_in_m : Faultless (SuitFault (suit_m three_player) 0 0 (take 9 (drop 0 h)))
  none_in_m = subst (λ (n : ℕ). Faultless (SuitFault (suit_m three_player) 0 0 (take n (drop 0 h)))) (m_kinds three_player)
      (none_in (suit_m three_player) 0 (omega (arith, m_kinds three_player)) (m_barred three_player))

  pub none_in_p : Faultless (SuitFault ranks 0 0 (take 9 (drop 9 h)))
  none_in_p = none_in ranks 9 (omega arith) (λ i l x. absurd x)

  pub none_in_s : Faultless (SuitFault ranks 0 0 (take 9 (drop 18 h)))
  none_in_s = none_in ranks 18 (omega arith) (λ i l x. absurd x)

  pub none_in_z : Faultless (SuitFault honours 0 0 (take 7 (drop 27 h)))
  none_in_z = none_in honours 27 (omega arith) (λ i l x. absurd x)

pub all_suits : (three_player : Bool) (h : List ℕ) {b : Board} {m p s z : List Found} → b ≡ suit_m three_player → AllRight b (take 9 (drop 0 h)) m
    → AllRight ranks (take 9 (drop 9 h)) p → AllRight ranks (take 9 (drop 18 h)) s → AllRight honours (take 7 (drop 27 h)) z
    → AllSuits three_player h m p s z
all_suits three_player h {m = m} e in_m in_p in_s in_z =
    record { in_m = subst (λ (x : Board). AllRight x (take 9 (drop 0 h)) m) e in_m; in_p = in_p; in_s = in_s; in_z = in_z }
