pub mod Branch
pub mod Cells
pub mod Choice
pub mod Look
pub mod Search
