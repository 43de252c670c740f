-- Nothing in this folder need be believed. `Reading` gives the written form once more, byte by byte, so that it can be computed; that it says what the grammar of
-- `Form` says, and stops at the offset of refusal 2, is proved: crates/paper_grammar/proofs, `complete`, `sound`, `stop_is_refusal` and `refusal_is_stop`.
pub mod Reading
