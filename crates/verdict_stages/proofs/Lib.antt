-- Laws that belong to no one function.
pub mod Readable
pub mod Fits
pub mod InTurn
