pub mod Lists
pub mod Settled
pub mod Steady
pub mod Steps
pub mod Others
pub mod Sessions
