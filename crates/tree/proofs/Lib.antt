pub mod Admitted
pub mod Asked
pub mod Law
pub mod Listed
pub mod Order
pub mod Steps
pub mod Tallied
