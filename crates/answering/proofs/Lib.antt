pub mod Program
pub mod Found
pub mod InForce
pub mod Steps
