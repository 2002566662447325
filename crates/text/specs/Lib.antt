pub mod Text
pub mod Word
pub mod Field
