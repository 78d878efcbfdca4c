pub mod Jobs
pub mod Images
pub mod Sizes
pub mod Cycles
pub mod Runs
pub mod Verdicts
pub mod Calls
pub mod Generated
