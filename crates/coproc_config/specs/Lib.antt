pub mod Bits
pub mod Table
pub mod Set
pub mod State
pub mod Check
pub mod Accept
pub mod Apply
pub mod Laws
