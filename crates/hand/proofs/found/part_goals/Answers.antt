-- A part without a fault is not refused.
use Rattle.std.proofs.Common.{subst}
use Rattle.tile.specs.Goals.{GoalsFor}
use Rattle.hand.proofs.Cut.{goals_there}
use Rattle.hand.proofs.found.part_goals.Goals as goal

pub unwrap-requires : goal.unwrap-requires
unwrap-requires g c = goals_there g.S.Tiles.board c.args.part.now c.goals.result c.requires c.goals.ensures

pub returns : goal.returns
returns g c = (subst (GoalsFor g.S.Tiles.board c.args.part.now) c.unwrap.ensures c.goals.ensures).1
