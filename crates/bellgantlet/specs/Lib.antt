pub mod Answers
pub mod SingleWalk
