-- The remainder by 97, taken character by character.
pub mod Remainders
