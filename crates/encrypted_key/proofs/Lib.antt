pub mod Elements
pub mod FileBytes
pub mod Files
pub mod Opening
pub mod Written
