pub mod Word
pub mod Table
pub mod Instr
pub mod Opcode
pub mod Fields
