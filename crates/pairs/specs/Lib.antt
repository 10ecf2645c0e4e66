-- The rows of patterns, in one list, and the check number of their matrix.
pub mod Held
pub mod Check
