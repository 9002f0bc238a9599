mod Verified
pub mod TrueKeys
pub mod Entries
pub mod Finding
