pub mod Compile
