pub mod VarSets
pub mod LinearSteps
