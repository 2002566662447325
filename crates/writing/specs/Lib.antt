pub mod Writing
pub mod Types
pub mod Literal
