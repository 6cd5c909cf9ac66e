pub mod Counted
pub mod Lower
pub mod Same
