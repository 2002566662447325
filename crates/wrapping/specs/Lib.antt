pub mod Marks
pub mod Names
pub mod Reach
