pub mod Calls
pub mod Checking
pub mod Keys
pub mod Seen
