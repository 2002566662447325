pub mod Locals
pub mod Steps
pub mod Recording
pub mod Bodies
pub mod Entries
pub mod Passing
pub mod Afresh
