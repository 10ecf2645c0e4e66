-- Sets. Read: Set, Heads.
pub mod Set
pub mod Heads
