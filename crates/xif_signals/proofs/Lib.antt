pub mod AllKnown
pub mod Bits
pub mod Channels
pub mod Fits
pub mod Lists
pub mod ReadsBack
