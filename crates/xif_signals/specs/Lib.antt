pub mod Signal
pub mod Quad
pub mod Bus
pub mod Channels
pub mod Known
