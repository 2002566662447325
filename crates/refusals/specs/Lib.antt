pub mod Refusal
pub mod Answers
pub mod Numbers
pub mod Places
