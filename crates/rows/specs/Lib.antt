-- What the walk answers.
pub mod Walk
