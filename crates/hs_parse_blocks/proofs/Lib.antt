pub mod Assigned
pub mod Bodies
pub mod Last
pub mod Operators
pub mod Steps
pub mod Tails
