pub mod Driven
pub mod Sessions
