pub mod Emitted
pub mod Recipients
