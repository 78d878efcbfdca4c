pub mod Shown
pub mod Becomes
