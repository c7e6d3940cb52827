pub mod Faults
pub mod Flags
pub mod Parts
pub mod Positions
pub mod Texts
