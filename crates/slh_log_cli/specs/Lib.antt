pub mod Proofs
pub mod Replies
