pub mod Walk
pub mod Operands
pub mod World
pub mod Guards
pub mod Refines
pub mod Pairs
pub mod Invariant
