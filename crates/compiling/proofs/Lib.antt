pub mod RowsOf
pub mod Treed
pub mod Calling
