pub mod Texts
pub mod Reading
pub mod Notes
pub mod Calls
pub mod Heads
