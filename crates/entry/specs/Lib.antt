pub mod Check
pub mod Entry
pub mod Settle
