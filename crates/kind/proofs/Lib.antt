pub mod Naming
pub mod Numbers
