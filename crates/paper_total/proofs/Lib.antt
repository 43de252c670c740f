pub mod SixtyFour
pub mod Bound
pub mod NotRefused
pub mod Unreached
