mod StoredFiles
mod Fronts
pub mod Leaves
