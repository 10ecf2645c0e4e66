-- Rows in words. Read: Cell, Coded, RowList, Cursor, Lockstep.
pub mod Cell
pub mod Coded
pub mod RowList
pub mod Cursor
pub mod Lockstep
