pub mod Signed
pub mod EvidenceBack
