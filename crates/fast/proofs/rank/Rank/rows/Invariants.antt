-- The rows are laid in the order of the loops: after n turns those of the states with fewer than n sequences begun one rank before; of the next state
-- those with fewer begun two ranks before; and of the next of these those with fewer pairs.
use Rattle.std.proofs.Common.{◌≡◌, length, replicate}
use Rattle.fast.specs.Word.{over}
use Rattle.fast.specs.Row.{best_row, tried_if}
use Rattle.fast.specs.Fill.{long, pair_rows, far_rows, near_rows}
use Rattle.fast.proofs.rank.Rank.rows.Given as goal

abbrev pub invariant-loop-near : goal.invariant-loop-near
invariant-loop-near l = (length l.cells ≡ 126) × (l.cells ≡ near_rows (best_row l.self.next.now.cells l.self.adds.words (tried_if l.self.held l.self.starts)) l.fars l.near (replicate long over))

abbrev pub invariant-loop-far : goal.invariant-loop-far
invariant-loop-far l = (length l.cells ≡ 126) × (l.cells ≡ far_rows (best_row l.self.next.now.cells l.self.adds.words (tried_if l.self.held l.self.starts)) l.near l.far l.initial.cells)

abbrev pub invariant-loop-left : goal.invariant-loop-left
invariant-loop-left l = (length l.cells ≡ 126) × (l.cells ≡ pair_rows (best_row l.self.next.now.cells l.self.adds.words (tried_if l.self.held l.self.starts)) l.near l.far l.left l.initial.cells)
