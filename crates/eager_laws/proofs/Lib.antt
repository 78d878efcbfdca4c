pub mod Views
pub mod Refusing
pub mod Following
pub mod Choosing
pub mod Along
pub mod Turning
pub mod Cycled
pub mod Whole
mod Examples
