pub mod CutRows
pub mod MovedRows
pub mod PutRows
pub mod RunRows
