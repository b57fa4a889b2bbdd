pub mod Many
pub mod Record
