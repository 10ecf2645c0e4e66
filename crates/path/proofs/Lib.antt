pub mod HeadSets
pub mod IndexLaws
pub mod StandingLaws
pub mod StateLaws
pub mod StepLaws
pub mod VariableLaws
