pub mod Skip
pub mod Steps
pub mod RangeSteps
