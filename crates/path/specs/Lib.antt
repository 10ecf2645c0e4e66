pub mod Rows
pub mod Standing
pub mod State
pub mod Variables
pub mod Wrote
