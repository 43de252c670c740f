-- What the answers on a leaf say in the paper's words.
pub mod Judgements
