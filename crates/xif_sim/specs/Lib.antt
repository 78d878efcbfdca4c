pub mod Fits
pub mod Setup
pub mod Simulating
