pub mod Kinds
pub mod Operators
pub mod Grammar
pub mod Table
pub mod Coded
