-- A profile as numbers, and what comes of a child.
pub mod Numbers
pub mod Seek
