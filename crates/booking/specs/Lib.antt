pub mod Walk
pub mod Found
