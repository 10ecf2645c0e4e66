pub mod RowsTaken
pub mod Showing
pub mod Calling
