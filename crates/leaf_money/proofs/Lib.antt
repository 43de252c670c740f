-- Laws that belong to no one function.
pub mod Cents
pub mod InCents
