pub mod Scans
pub mod Order
pub mod Indexed
pub mod Slots
pub mod OlderOnes
pub mod Kept
pub mod Single
pub mod Counts
