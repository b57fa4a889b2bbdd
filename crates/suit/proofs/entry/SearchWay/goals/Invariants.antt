-- The loop fills in the ten answers.
use Rattle.std.proofs.Common.{◌/◌, ◌%◌}
use Rattle.tile.specs.Refusal.{most_tiles}
use Rattle.tile.specs.Suit.{blank, Right}
use Rattle.tile.proofs.Filling.{Filled}
use Rattle.suit.proofs.entry.SearchWay.goals.Given as goal

abbrev pub invariant-loop-goal : goal.invariant-loop-goal
invariant-loop-goal g l = Filled blank 10 (λ n r. Right g.S.Tiles.board most_tiles (n / 5) (n % 5) l.counts r) l.goal l.goals
