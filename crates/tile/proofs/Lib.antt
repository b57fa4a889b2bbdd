-- Laws, from the small to the large; what a reader of the definitions may want to know stands last.
pub mod Tests
pub mod Filling
pub mod Counts
pub mod Sets
pub mod Tally
pub mod Append
pub mod Built
pub mod Beside
pub mod Parts
-- theorems about the definitions
pub mod Unique
pub mod Answers
pub mod Size
pub mod Suit
pub mod Promise
pub mod Accepted
pub mod Sense
pub mod Whole
pub mod Places
pub mod Narrow
pub mod Order
pub mod Hand
pub mod Fourteen
mod Example
mod Both
