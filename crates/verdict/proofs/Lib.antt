pub mod Outcomes
pub mod Reached
pub mod Telling
pub mod Fitting
