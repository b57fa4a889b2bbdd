pub mod Cell
pub mod Table
pub mod Meet
