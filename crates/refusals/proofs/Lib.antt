pub mod Answers
pub mod Tags
mod Spans
