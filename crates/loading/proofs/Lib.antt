pub mod Shared
pub mod Placing
pub mod Roomy
pub mod Adding
pub mod Tested
pub mod Loads
