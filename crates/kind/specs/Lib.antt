pub mod Kinds
pub mod Shapes
