pub mod Bound
pub mod Judging
pub mod Lets
pub mod Lookups
pub mod Mentioned
pub mod Methods
