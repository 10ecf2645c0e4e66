pub mod HeadSets
pub mod ListSets
pub mod SetLaws
