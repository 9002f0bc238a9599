pub mod Absorbing
mod Keys
pub mod Codes
pub mod Expanding
