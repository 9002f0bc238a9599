pub mod Judgement
pub mod Errors
pub mod EvidenceWords
pub mod EvidenceNumbers
