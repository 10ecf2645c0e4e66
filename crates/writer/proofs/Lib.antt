pub mod RowsFit
pub mod StartLaws
pub mod WriteLaws
