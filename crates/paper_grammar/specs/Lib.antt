-- What the theorems cite beside the definitions of `paper`.
pub mod Stays
