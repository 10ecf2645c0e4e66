pub mod Beside
pub mod Choosing
pub mod HeadSizes
pub mod Laws
pub mod Shortening
pub mod Sized
pub mod Taking
