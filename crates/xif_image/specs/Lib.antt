pub mod Region
pub mod Image
pub mod Text
pub mod Grammar
