pub mod InstantCases
