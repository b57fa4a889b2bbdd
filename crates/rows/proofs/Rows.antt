-- Each row of the table is what is promised for its hand: one statement for all, by one computed test over the table.
-- Assumes nothing.
use mathlib.Core.Path.{◌≡◌}
use Prim.Native.Nat.{ℕ, ◌<◌}
use lib.ListN.{length}
use lib.Dec.{T}
use Rattle.tile.specs.Count.{bit, sum_to}
use Rattle.tile.specs.Tally.{kinds_to, live_to}
use Rattle.tile.specs.Hand.{HandPromised}
use Rattle.std.specs.Prelude.{Ok}
use Rattle.tile.proofs.Tests.{all_to, all_to_lem}
use Rattle.walk.specs.Walk.{up_to}
use Rattle.table.specs.Cell.{meet, onto, chosen, cell, result}
use Rattle.table.specs.Table.{listed, table, goals}
use Rattle.merge.specs.Merge.{beside, better, best_to, merged, lifted, suit_at, hand_merged}
use Rattle.rows.specs.Rows.{rows, row_at}
use Rattle.rows.proofs.Row.{right, long, row_promised}

-- a row more is a line more of data: nothing here names a row
all_right : T (all_to (length rows) (λ i. right (row_at i)))
unfolding sum_to kinds_to live_to goals table listed cell chosen meet onto result up_to bit beside better best_to merged lifted suit_at hand_merged
all_right = tt

passes : (i : ℕ) → i < length rows → T (right (row_at i))
passes = all_to_lem (length rows) (λ i. right (row_at i)) all_right

pub rows_long : (i : ℕ) → i < length rows → length (row_at i).counts ≡ 34
rows_long i l = long (row_at i) (passes i l)

pub rows_promised : (i : ℕ) → i < length rows → HandPromised (row_at i).game (row_at i).melds (row_at i).counts (Ok (row_at i).answer)
rows_promised i l = row_promised (row_at i) (passes i l)
