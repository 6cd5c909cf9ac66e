pub mod Follow
pub mod Lists
