-- The answers with refusal 21.
pub mod With21
