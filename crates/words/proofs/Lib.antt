pub mod Reading
pub mod Runs
pub mod Fitting
pub mod Round
pub mod Held
pub mod Seven
pub mod Answers
mod Example
mod Wide
