pub mod Rules
pub mod Faults
pub mod Histories
pub mod Judging
