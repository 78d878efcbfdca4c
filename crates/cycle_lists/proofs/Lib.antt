pub mod Tests
pub mod Every
pub mod Filters
pub mod Places
pub mod Free
pub mod Order
pub mod Runs
