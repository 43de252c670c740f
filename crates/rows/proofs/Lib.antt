-- Laws that belong to no one function.
pub mod Agreement
pub mod FromRoot
pub mod Walking
