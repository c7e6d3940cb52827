pub mod Asks
pub mod Marks
pub mod Answers
pub mod Runs
pub mod Questions
pub mod Positions
pub mod Names
