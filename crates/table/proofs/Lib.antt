-- Worked examples first: they show what the definition says.
mod Example
-- From one cell to the theorem: a cell is the best of what can be made from its rank on (Good, Cell), from the first rank on that are
-- the targets (Quick), and the table has the cells (Table).
pub mod Good
pub mod Cell
pub mod Quick
pub mod Table
-- Answers in words: how two of them are met.
pub mod Meet
