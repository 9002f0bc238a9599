pub mod Sha256
pub mod Rounds
pub mod Lanes
pub mod Eight
pub mod Midstate
pub mod Begun
pub mod Batches
pub mod Single
