pub mod Narrow
pub mod Slots
pub mod Digits
