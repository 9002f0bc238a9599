pub mod PathFields
pub mod Replies
