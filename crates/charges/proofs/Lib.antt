pub mod Cases
pub mod Words
pub mod Malformed
pub mod Refusals
pub mod Answered
pub mod Laws
