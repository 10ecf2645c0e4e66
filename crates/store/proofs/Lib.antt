pub mod ChangeFacts
pub mod FindFacts
pub mod LaidFacts
pub mod Laws
pub mod Reading
pub mod Walk
