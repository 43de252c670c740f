pub mod Laws
pub mod Findings
