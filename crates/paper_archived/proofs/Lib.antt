pub mod Without
pub mod AsBefore
pub mod NotProvided
pub mod NeverRegrouped
