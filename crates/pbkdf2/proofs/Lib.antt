pub mod Adding
pub mod Deriving
pub mod Sizes
