pub mod Lists
pub mod Add
pub mod Load
