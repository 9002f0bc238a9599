pub mod Merkle
pub mod Xmss
pub mod Hypertree
pub mod Fors
pub mod Lengths
pub mod Checking
pub mod Treehash
pub mod ToySuite
