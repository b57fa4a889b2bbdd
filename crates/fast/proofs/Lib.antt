-- A cell fits its word (Fold, Small, Word); a row of words holds the cells of a state (Lane); the array holds the rows (Turns, Places); so from
-- rank to rank the array holds the table's cells, and at the first rank the ten goals (Reach), on each of
-- the three boards (Suits).
pub mod Fold
pub mod Small
pub mod Word
pub mod Turns
pub mod Places
pub mod Lane
pub mod Reach
pub mod Suits
-- And the theorem that table and search coincide.
pub mod Same
