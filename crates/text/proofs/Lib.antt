pub mod Entries
pub mod TextFacts
pub mod TextLaw
pub mod Cases
pub mod Laws
