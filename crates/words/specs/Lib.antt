-- What a reader must believe, in reading order; the legend stands at the head of the definitions of `tile`.
pub mod Field
pub mod Layout
pub mod Packing
pub mod Promise
-- What the private functions compute, as the code has it.
pub mod Code
pub mod Limit
