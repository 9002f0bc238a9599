pub mod Lanes
pub mod Steps
pub mod Midstate
pub mod Batches
pub mod Hash
pub mod Single
