pub mod Facts
pub mod Rules
pub mod Legal
pub mod Tests
pub mod Uses
