pub mod Meanings
pub mod Indexes
pub mod Missing
