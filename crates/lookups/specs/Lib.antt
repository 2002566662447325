pub mod Named
pub mod Event
pub mod Found
pub mod Lines
