pub mod Nested
pub mod Nodes
pub mod Outline
pub mod Spans
pub mod Breaks
pub mod Walk
