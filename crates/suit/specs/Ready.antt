-- What the search needs to know when it comes to a rank.
-- Assumes nothing.
use Rattle.std.specs.Prelude.{◌≡◌, List, ℕ, ◌+◌, ◌*◌, ◌≤◌, length, get_or, T}
use Rattle.tile.specs.Count.{Few, sum_to, lack_to}
use Rattle.tile.specs.Board.{may_hold}
use Rattle.tile.specs.Suit.{IsSuit}
use Rattle.walk.specs.Begun.{Begun}
use Rattle.suit.specs.Task.{Task}
use Rattle.suit.specs.declared.aim.Aim.{Aim}

-- the aim a is that of a walk which comes to rank i of the hand h
pub record Ready (h : List ℕ) (k : Task) (i : ℕ) (a : Aim) : Type 0 where
  pub task : IsSuit k.board k.runs k.step
  pub held_all : k.held ≡ sum_to (length h) h
  pub long : length h ≡ k.board.kinds
  pub few : Few h
  pub held : T (may_hold k.board i)
  pub begun : Begun k.board i a.counts
  pub here : a.here ≡ get_or a.counts i 0
  pub next : a.next ≡ get_or a.counts (i + 1) 0
  pub lack : a.lack ≡ lack_to i a.counts h
  pub span : a.span ≤ sum_to k.board.kinds a.counts + (3 * a.melds + 2 * a.pairs) + lack_to i h a.counts
  pub small : a.span ≤ 40 + 4 * i
