-- Laws that belong to no one function.
pub mod LaterRows
pub mod Fields
