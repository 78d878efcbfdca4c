pub mod Digits
pub mod Places
pub mod Samples
pub mod Keeping
pub mod Steps
pub mod Written
