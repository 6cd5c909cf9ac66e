pub mod Plain
pub mod Of
pub mod Spelled
pub mod Means
pub mod Environment
pub mod Scoped
pub mod Ended
