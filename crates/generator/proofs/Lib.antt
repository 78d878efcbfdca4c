pub mod Drawn
pub mod Padded
