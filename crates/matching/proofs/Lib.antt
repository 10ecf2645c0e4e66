pub mod SpanLaws
pub mod GivenSteps
pub mod FitSteps
pub mod BindSteps
pub mod Laws
