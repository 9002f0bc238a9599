pub mod Runs
pub mod Rows
pub mod Spans
pub mod Bits
pub mod Places
pub mod Reading
pub mod Told
