pub mod Buckets
pub mod Details
pub mod Drafts
pub mod Fits
pub mod Keys
