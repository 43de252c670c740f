pub mod Changed
pub mod FormCases
pub mod RowCases
pub mod AlikeCases
pub mod StageCases
pub mod FieldCases
pub mod RegroupingCases
pub mod WithdrawnCases
