use Rattle.tile.proofs.Suit.{starts_below}
use Rattle.tile.proofs.suit_tiles.SuitTiles.starts.Goals as goal

pub returns : goal.returns
returns g c = rw c.RUNS.ensures (starts_below g.met.Self.SuitTiles.is_suit c.args.rank)
