-- The theorem on the rule of 97, its computed cases, and laws that belong to no one function.
pub mod RuleOf97
pub mod Cases
pub mod Laws
