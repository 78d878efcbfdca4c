pub mod Measure
pub mod Lawful
