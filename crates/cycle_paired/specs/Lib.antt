pub mod Paired
pub mod Reached
pub mod Agreed
