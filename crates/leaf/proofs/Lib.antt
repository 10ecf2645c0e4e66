pub mod LeafLaws
pub mod PairLaws
