pub mod Wrapped
pub mod Reaching
pub mod Emitting
pub mod Stmts
