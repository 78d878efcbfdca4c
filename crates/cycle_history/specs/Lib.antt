pub mod Words
pub mod Uses
