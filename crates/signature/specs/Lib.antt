-- Signatures and bookings. Read: Limits, Value, Signature, Lawful, Read, Part.
pub mod Limits
pub mod Lists
pub mod Refusal
pub mod Value
pub mod Signature
pub mod Lawful
pub mod Read
pub mod Part
pub mod Decoded
pub mod Laws
pub mod Cases
