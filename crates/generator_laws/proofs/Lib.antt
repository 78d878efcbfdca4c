pub mod Words
pub mod Steps
pub mod Rounds
pub mod Pace
pub mod Ending
