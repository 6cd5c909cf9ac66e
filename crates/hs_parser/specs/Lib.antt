pub mod BreakRule
pub mod Nesting
pub mod Told
