pub mod Consuming
pub mod Walk
