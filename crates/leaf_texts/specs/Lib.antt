-- Shapes that the code holds as texts.
pub mod Shapes
