pub mod Pieces
pub mod Words
pub mod Fields
pub mod Tests
pub mod Filling
