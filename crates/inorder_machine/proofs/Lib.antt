pub mod Retirements
pub mod Places
pub mod Written
pub mod Unread
pub mod Halves
