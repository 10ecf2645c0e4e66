pub mod Lists
pub mod Found
pub mod Written
pub mod Calling
