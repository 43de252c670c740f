-- The answers as they were before.
pub mod Before
