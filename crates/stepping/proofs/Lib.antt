pub mod BeginLaws
pub mod CaseLaws
pub mod Front
pub mod TakeLaws
pub mod Shown
pub mod Ends
pub mod Laws
pub mod Cases
