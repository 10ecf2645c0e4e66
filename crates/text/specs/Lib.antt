pub mod Format
pub mod Lawful
pub mod Limits
pub mod Print
pub mod Laws
pub mod Cases
