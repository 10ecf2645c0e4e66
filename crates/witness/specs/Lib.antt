pub mod Fill
pub mod Laws
pub mod Lists
pub mod Pair
