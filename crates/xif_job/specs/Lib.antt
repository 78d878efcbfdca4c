pub mod Field
pub mod Outcome
pub mod Readers
pub mod Words
pub mod Tables
pub mod Document
pub mod FieldTable
pub mod Ranges
