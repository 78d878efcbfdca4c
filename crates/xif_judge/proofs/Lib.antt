pub mod Now
pub mod Order
pub mod Firsts
pub mod Sides
pub mod Cycles
pub mod Steps
