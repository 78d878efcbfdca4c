pub mod Outcomes
pub mod Shapes
pub mod Lengths
pub mod Entries
pub mod Ranges
pub mod Widths
pub mod Named
pub mod Driven
