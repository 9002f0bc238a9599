pub mod Requests
pub mod Reply
pub mod Usage
