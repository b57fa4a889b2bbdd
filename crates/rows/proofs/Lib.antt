pub mod Records
pub mod Row
pub mod Rows
