pub mod Counted
mod Examples
