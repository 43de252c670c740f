-- The number that characters spell, modulo 97.
pub mod Remainders
