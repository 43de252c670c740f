-- What the numbers of the code say in the paper's words.
pub mod Readings
