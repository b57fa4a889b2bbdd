pub mod Choice
pub mod Sets
pub mod Task
pub mod Aim
pub mod Ready
