pub mod Drives
pub mod Fits
