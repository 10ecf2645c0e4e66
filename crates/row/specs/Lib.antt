-- Rows. Read: Row, RowFits, Limits, Overlap, Admitted, Laws, Cases.
pub mod Row
pub mod RowFits
pub mod Limits
pub mod Overlap
pub mod Admitted
pub mod Laws
pub mod Cases
