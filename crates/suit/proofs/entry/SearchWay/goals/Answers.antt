-- A suit that is not refused has what the search requires.
use Rattle.std.proofs.Common.{arith}
use Rattle.tile.proofs.Accepted.{accepted}
use Rattle.suit.proofs.entry.SearchWay.goals.Goals as goal

pub found_for-requires : goal.found_for-requires
found_for-requires g c =
    let f = accepted {b = g.S.Tiles.board} c.in_ok-check.ensures in
    (f.long, f.few, omega arith, omega arith, omega arith)
