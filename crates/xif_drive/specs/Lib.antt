pub mod Predictors
pub mod Scripts
