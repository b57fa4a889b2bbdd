-- After m turns the first m words of the row are laid.
use Rattle.std.proofs.Common.{◌≡◌}
use Rattle.fast.specs.Fill.{laid_row}
use Rattle.fast.proofs.rows.put.Given as goal

abbrev pub invariant-loop-melds : goal.invariant-loop-melds
invariant-loop-melds l = (l.cells ≡ laid_row l.at l.row l.melds l.fn.cells)
