pub mod Word
pub mod Row
pub mod Fill
pub mod State
pub mod Goals
