pub mod Fits
pub mod Drives
