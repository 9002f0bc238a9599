pub mod Finding
pub mod Proving
pub mod Fitting
pub mod Paths
pub mod EntryPairs
