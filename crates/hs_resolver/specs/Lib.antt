pub mod Rules
pub mod Parts
pub mod Names
pub mod Order
pub mod Walks
pub mod InOrder
pub mod Spelled
