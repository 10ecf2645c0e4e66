pub mod Laws
pub mod LeastFacts
pub mod Lockstep
pub mod PlaceFacts
pub mod Search
