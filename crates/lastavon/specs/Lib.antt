pub mod Goals
pub mod Room
pub mod Word
pub mod Words
