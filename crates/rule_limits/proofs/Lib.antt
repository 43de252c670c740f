-- Laws that belong to no one function.
pub mod Agreement
mod Buffer
pub mod First
mod NestedWalk
pub mod Refusing
mod Steps
