-- What callers of the crate cite.
pub mod Bits
pub mod Checks
pub mod Params
pub mod Flags
pub mod Faults
pub mod Files
pub mod Output
-- only for the outside in memory
pub mod Calls
pub mod MemoryShelf
pub mod MemoryOutput
