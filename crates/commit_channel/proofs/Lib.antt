pub mod Commits
pub mod Open
