-- Laws that belong to no one function.
pub mod Verdicts
pub mod Parts
pub mod Agreement
pub mod Texts
