-- What one choice more makes of a target on its way, as the code computes it.
-- Assumes nothing.
use Rattle.std.specs.Prelude.{Bool, ◌&&◌, List, ℕ, ◌+◌, ◌-◌, ◌≤◌, get_or, set, leb}
use Rattle.tile.specs.Count.{copies}
use Rattle.suit.specs.declared.choice.Choice.{Choice}
use Rattle.suit.specs.declared.aim.Aim.{Aim}
use Rattle.suit.specs.declared.aim.View.{View}

-- what the hand h holds of rank i and of the two after it
abbrev pub view_of : List ℕ → ℕ → View
view_of h i = record { first = get_or h i 0; second = get_or h (i + 1) 0; third = get_or h (i + 2) 0 }

-- so small that no sum passes a byte: ranks hold at most four tiles, a choice adds at most seven to one, and lack and span stay far below 100
abbrev pub Small : Aim → Choice → View → Type 0
Small a c v = (a.here ≤ 4) × (a.next ≤ 4) × (a.lack ≤ 100) × (a.span ≤ 100) × (c.tiles ≤ 7) × (c.sequences ≤ 2) × (v.first ≤ 4)

module _ (a : Aim) (c : Choice) (v : View) where
  -- what is lacked at the ranks passed, at this one, and at the two after it
  abbrev pub whole_lack : ℕ
  whole_lack = a.lack + (a.here + c.tiles - v.first) + (a.next + c.sequences - v.second) + (c.sequences - v.third)

  -- the choice fits, and neither what is lacked nor what must be lacked is more than was found
  unfoldable pub worthy : ℕ → ℕ → Bool
  worthy held number =
      leb c.melds a.melds
      && (leb c.pairs a.pairs
      && (leb (a.here + c.tiles) copies && (leb whole_lack number && leb (a.span + (v.first - (a.here + c.tiles))) (held + number))))

abbrev pub counts_by : Aim → ℕ → Choice → List ℕ
counts_by a i c = set (set (set a.counts i (a.here + c.tiles)) (i + 1) (a.next + c.sequences)) (i + 2) c.sequences

abbrev pub advanced_by : Aim → ℕ → Choice → View → Aim
advanced_by a i c v =
    record {
      counts = counts_by a i c;
      here = a.next + c.sequences;
      next = c.sequences;
      pairs = a.pairs - c.pairs;
      melds = a.melds - c.melds;
      lack = a.lack + (a.here + c.tiles - v.first);
      span = a.span + (v.first - (a.here + c.tiles));
    }
