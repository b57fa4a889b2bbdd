pub mod Question
pub mod Record
pub mod Reply
