pub mod Linearity
