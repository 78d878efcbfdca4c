pub mod Masks
pub mod Listed
pub mod Distinct
pub mod Opcodes
