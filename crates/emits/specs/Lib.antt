pub mod Emit
pub mod Recipient
