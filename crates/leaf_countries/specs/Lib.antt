-- The countries of a length as code takes them.
pub mod Letters
