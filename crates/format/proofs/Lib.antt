pub mod Reading
pub mod TextSteps
pub mod TextLaws
pub mod FormatSteps
pub mod Laws
