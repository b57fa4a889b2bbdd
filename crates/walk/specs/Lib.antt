pub mod Choice
pub mod Walk
pub mod Leaf
pub mod Begun
