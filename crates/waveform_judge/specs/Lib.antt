pub mod Newest
pub mod Judged
pub mod Represented
pub mod Taking
