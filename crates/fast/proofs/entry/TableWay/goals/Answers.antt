-- Counts that are not refused are as many as the suit has kinds.
use Rattle.tile.proofs.Accepted.{accepted}
use Rattle.fast.proofs.entry.TableWay.goals.Goals as goal

pub found_for-requires : goal.found_for-requires
found_for-requires g c = (accepted {b = g.S.Tiles.board} c.in_ok-check.ensures).long
