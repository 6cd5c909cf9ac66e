pub mod Popped
pub mod Unfinished
pub mod Ranks
pub mod Breaks
pub mod Answered
