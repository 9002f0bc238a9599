pub mod Functions
pub mod Modes
pub mod Sets
