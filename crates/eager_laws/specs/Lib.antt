pub mod Flights
pub mod Eager
