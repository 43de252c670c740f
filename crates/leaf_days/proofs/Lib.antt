-- Laws that belong to no one function.
pub mod Days
pub mod Times
