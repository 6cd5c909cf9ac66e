pub mod Cuts
pub mod Closings
pub mod Comments
pub mod Values
pub mod Longest
pub mod Names
pub mod Places
