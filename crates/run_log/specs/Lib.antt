pub mod Words
pub mod Log
pub mod Told
pub mod Growth
