pub mod Counting
pub mod Laws
pub mod Ready
pub mod Steps
