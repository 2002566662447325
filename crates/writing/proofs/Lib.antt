pub mod Adding
pub mod Arguments
pub mod Decimals
pub mod FieldTypes
pub mod Literals
pub mod Texts
