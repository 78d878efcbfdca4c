pub mod RefinesInOrder
