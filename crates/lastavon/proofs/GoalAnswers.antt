-- The answers for the ten goals at once are those for each goal: no goal of them is at fault itself, so that the faults are the same.
-- Assumes nothing.
use mathlib.Core.Path.{◌≡◌, refl, ap, ◌∙◌}
use mathlib.Core.Logic.{⊎_elim}
use mathlib.Core.List.{List}
use Prim.Native.Nat.{ℕ, ◌/◌, ◌%◌, ◌^◌, ◌≤◌, ◌<◌}
use native.Mathlib.Omega.{arith}
use lib.ListN.{length, get_or}
use Rattle.tile.specs.Board.{Board}
use Rattle.tile.specs.Refusal.{most_melds, code_of, SuitFault}
use Rattle.tile.specs.Suit.{blank, values_of, IsSuit, Promised}
use Rattle.tile.specs.Goals.{GoalsFor}
use Rattle.tile.specs.declared.found.Found.{Found}
use Rattle.tile.specs.declared.refusal.Reason.{Reason}
use Rattle.tile.specs.declared.refusal.Reason.TheVariants.{Game, Goal, Length, Over, Sum, Barred}
use Rattle.std.specs.Prelude.{Result, Ok, Err}
use Rattle.tile.proofs.Filling.{Filled, filled_all}
use Rattle.lastavon.specs.Word.{word_of}
use Rattle.lastavon.specs.Goals.{GoalWords}
use Rattle.lastavon.proofs.SuitParts.{board_parts}

-- a fault that is not the goal's is one for any other goal
other_goal : (b : Board) (h : List ℕ) {p m : ℕ} (r n : ℕ) → p ≤ 1 → m ≤ most_melds → (q : Reason) → SuitFault b p m h q → SuitFault b r n h q
other_goal b h r n l k Game x = x
other_goal b h r n l k Goal x = absurd (⊎_elim (λ over. omega arith) (λ over. omega arith) x)
other_goal b h r n l k Length x = x
other_goal b h r n l k (Over i) x = x
other_goal b h r n l k Sum x = x
other_goal b h r n l k (Barred i) x = x

-- what is promised for the ten goals, or the suit's refusal, is promised for each
found_promised : (b : Board) (h : List ℕ) (r : List Found) → GoalsFor b h (Ok r) → (g : ℕ) → g < 10 → Promised b (g / 5) (g % 5) h (Ok (get_or r g blank))
found_promised b h r (none, all) g l = (λ q x. none q (other_goal b h 0 0 (omega arith) (omega arith) q x), all.each g l)

refused_promised : (b : Board) (h : List ℕ) (q : Reason) → GoalsFor b h (Err q) → (g : ℕ) → g < 10 → Promised b (g / 5) (g % 5) h (Err q)
refused_promised b h q first g l =
    record {
      holds = other_goal b h (g / 5) (g % 5) (omega arith) (omega arith) q first.holds;
      none_before = λ s less x. first.none_before s less (other_goal b h 0 0 (omega arith) (omega arith) s x);
    }

module _ {b : Board} {runs step : ℕ} (suit : IsSuit b runs step) (h : List ℕ) where
  -- words of one code, each that of a promised answer
  words_of : (w : List ℕ) (c : ℕ) (a : ℕ → Result Found Reason) → length w ≡ 10 → ((g : ℕ) → g < 10 → Promised b (g / 5) (g % 5) h (a g))
      → ((g : ℕ) → (values_of (a g)).code ≡ c) → ((g : ℕ) → g < 10 → get_or w g 0 ≡ word_of (a g)) → GoalWords b h c w
  words_of w c a long right code word =
      record {
        ten = long;
        each = λ g l. (a g, right g l, word g l);
        code = λ g l. ap (λ (v : ℕ). v / 2 ^ 48) (word g l) ∙ (board_parts suit (g / 5) (g % 5) h (a g) (right g l)).code ∙ code g;
      }

  -- filled in one after the other
  pub found_words : {i : ℕ} {w : List ℕ} (r : List Found) → GoalsFor b h (Ok r) → 10 ≤ i → Filled 0 10 (λ g v. v ≡ word_of (Ok (get_or r g blank))) i w → GoalWords b h 0 w
  found_words {w = w} r promised end filled =
      words_of w 0 (λ g. Ok (get_or r g blank)) filled.long (found_promised b h r promised) (λ g. refl) (filled_all end filled)

  -- all alike
  pub refused_words : {w : List ℕ} (q : Reason) → GoalsFor b h (Err q) → length w ≡ 10 → ((g : ℕ) → g < 10 → get_or w g 0 ≡ word_of (Err q)) → GoalWords b h (code_of q) w
  refused_words {w} q promised long alike = words_of w (code_of q) (λ g. Err q) long (refused_promised b h q promised) (λ g. refl) alike
