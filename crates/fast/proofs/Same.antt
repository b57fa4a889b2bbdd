-- The table and the search coincide: what keeps the promise for a suit's goals is, goal by goal, what the walk finds.
-- Assumes nothing.
use mathlib.Core.Path.{◌≡◌}
use mathlib.Core.List.{List}
use Prim.Native.Nat.{ℕ, ◌/◌, ◌%◌, ◌≤◌, ◌<◌}
use native.Mathlib.Omega.{arith}
use lib.ListN.{get_or}
use Rattle.tile.specs.Refusal.{most_tiles}
use Rattle.tile.specs.Board.{Board}
use Rattle.tile.specs.Suit.{blank, board_of, Right, IsSuit, of_ranks, of_honours, of_ends}
use Rattle.tile.specs.Goals.{GoalsFor, GoalsPromised}
use Rattle.tile.specs.declared.found.Found.{Found}
use Rattle.tile.specs.declared.one_suit.Suit.{Suit}
use Rattle.tile.specs.declared.one_suit.Suit.TheVariants.{Ranks, Honours, Ends}
use Rattle.std.specs.Prelude.{Ok}
use Rattle.tile.proofs.Suit.{right_once}
use Rattle.walk.specs.Walk.{searched}
use Rattle.walk.proofs.Right.{ranks_right, honours_right, ends_right}

-- what the walk finds is right, on each board
searched_right : {b : Board} {runs step : ℕ} → IsSuit b runs step → (p m : ℕ) (h : List ℕ) → p ≤ 1 → m ≤ 4
    → Right b most_tiles p m h (searched b h most_tiles p m)
searched_right of_ranks p m h one four = ranks_right p m h most_tiles one (omega arith) (omega arith)
searched_right of_honours p m h one four = honours_right p m h most_tiles one (omega arith) (omega arith)
searched_right of_ends p m h one four = ends_right p m h most_tiles one (omega arith) (omega arith)

-- so it is what any way to a suit's goals gives for a suit that is not refused, the table too
pub way_as_searched : {b : Board} {runs step : ℕ} → IsSuit b runs step → (h : List ℕ) (r : List Found) → GoalsFor b h (Ok r)
    → (g : ℕ) → g < 10 → get_or r g blank ≡ searched b h most_tiles (g / 5) (g % 5)
way_as_searched suit h r (fine, all) g l = right_once (all.each g l) (searched_right suit (g / 5) (g % 5) h (omega arith) (omega arith))

-- and where ten zeros stand for a refusal; a refusal is the same too, and so are any two results that keep the promise (`goals_once` in tile)
pub as_searched : (s : Suit) (h : List ℕ) (r : List Found) {done : Unit {0}} → GoalsPromised (board_of s) h (Ok done) r
    → (g : ℕ) → g < 10 → get_or r g blank ≡ searched (board_of s) h most_tiles (g / 5) (g % 5)
as_searched Ranks h r kept g l = way_as_searched of_ranks h r kept g l
as_searched Honours h r kept g l = way_as_searched of_honours h r kept g l
as_searched Ends h r kept g l = way_as_searched of_ends h r kept g l
