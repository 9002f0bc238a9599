pub mod CallLemmas
pub mod ChunkLemmas
pub mod LendLemmas
pub mod ResultLemmas
pub mod RunLemmas
pub mod Steps
pub mod ViewLemmas
