pub mod Laws
pub mod Least
pub mod Lists
pub mod Pair
