pub mod Spans
pub mod Digits
pub mod Lists
