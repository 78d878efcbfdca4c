pub mod Lives
pub mod Runs
pub mod Channels
pub mod Told
