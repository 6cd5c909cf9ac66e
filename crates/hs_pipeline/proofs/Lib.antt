pub mod Keeps
pub mod Kept
pub mod Meanings
pub mod OneByOne
