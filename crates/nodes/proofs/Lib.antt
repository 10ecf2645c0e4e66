pub mod LinkLaws
pub mod EndLaws
pub mod NodeLaws
