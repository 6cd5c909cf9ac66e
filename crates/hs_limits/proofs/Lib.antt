pub mod At
pub mod First
pub mod Heights
pub mod Order
pub mod Steps
pub mod Names
