-- For callers.
pub mod Once
pub mod Sum
