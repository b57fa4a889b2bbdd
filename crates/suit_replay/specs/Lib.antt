pub mod Question
pub mod Record
pub mod Ten
pub mod Reply
