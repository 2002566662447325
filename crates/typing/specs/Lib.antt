pub mod Asks
pub mod Each
