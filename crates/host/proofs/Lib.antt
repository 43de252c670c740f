pub mod Laws
pub mod Agreement
