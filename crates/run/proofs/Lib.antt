pub mod BindLaws
pub mod StepLaw
pub mod WalkLaws
pub mod CallLaws
