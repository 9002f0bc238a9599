pub mod Publishing
pub mod Folders
pub mod Appending
pub mod Names
