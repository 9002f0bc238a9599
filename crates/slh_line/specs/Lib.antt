pub mod LineErrors
pub mod Readings
pub mod Replies
