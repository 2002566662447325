pub mod Told
pub mod Lengths
