pub mod Ops
pub mod Rows
pub mod Walks
pub mod Capping
pub mod Bounds
pub mod Terms
pub mod Adding
pub mod Judging
