pub mod Halts
pub mod Ladders
pub mod Law
