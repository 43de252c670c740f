-- What the judgement finds at a leaf.
pub mod Judged
