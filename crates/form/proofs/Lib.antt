-- Laws that belong to no one function, and what the contract of `form_of` determines.
pub mod Numbering
pub mod ContentLaws
pub mod ElementLaws
pub mod RootLaws
pub mod Agreement
