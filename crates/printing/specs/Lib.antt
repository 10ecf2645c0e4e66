pub mod Put
pub mod Pairs
pub mod Printed
