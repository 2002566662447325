pub mod Tests
pub mod Judged
pub mod Checking
