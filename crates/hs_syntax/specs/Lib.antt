pub mod Spans
pub mod Levels
pub mod Texts
pub mod Height
pub mod WellFormed
