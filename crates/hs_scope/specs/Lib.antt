pub mod Scope
pub mod Names
pub mod Index
pub mod Entries
