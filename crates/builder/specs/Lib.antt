pub mod Arguments
pub mod Build
