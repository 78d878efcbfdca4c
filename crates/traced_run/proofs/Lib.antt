pub mod Small
pub mod Counting
pub mod Front
pub mod Telling
