pub mod Sizes
pub mod Guardians
pub mod Known
pub mod Storing
pub mod Digests
pub mod Bounds
