pub mod Asked
pub mod Drafted
pub mod Heights
pub mod Kids
pub mod Nest
pub mod Reading
pub mod Visiting
