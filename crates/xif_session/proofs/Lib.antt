pub mod Options
pub mod RuleTests
pub mod Places
pub mod Whole
pub mod Order
