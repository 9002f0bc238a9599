pub mod Calls
pub mod Chunked
pub mod Chunks
pub mod Gives
pub mod Lending
pub mod Refusals
pub mod Runs
pub mod Viewed
