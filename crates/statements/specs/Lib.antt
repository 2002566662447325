pub mod Assigned
pub mod Checked
