mod Cut
-- Words for answers: how large numbers and sets get, what merging words gives, the loops that do it, the suits of a hand.
mod Below
mod Packing
mod Entries
mod Goals
mod Low
mod Known
-- The tiles that are left.
pub mod Live
