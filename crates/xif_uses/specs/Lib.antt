pub mod Slots
pub mod Order
pub mod Table
pub mod Handshake
