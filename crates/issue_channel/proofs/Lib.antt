pub mod Phases
pub mod Chains
pub mod Opens
pub mod Step
pub mod Operands
