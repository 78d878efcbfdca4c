mod Printed
pub mod Numerals
pub mod Sentences
pub mod Lines
pub mod Numbered
pub mod Parts
pub mod Unique
pub mod Figures
