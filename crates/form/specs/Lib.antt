-- What the contracts of `form` cite.
pub mod Promise
pub mod Reads
