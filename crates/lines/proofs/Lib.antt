pub mod LineLaws
pub mod LineSteps
pub mod RuleSteps
