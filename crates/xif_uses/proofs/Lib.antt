pub mod Slots
pub mod Ordered
pub mod Orders
pub mod Decisions
pub mod Search
pub mod Faults
