pub mod Hosts
pub mod SingleWalk
