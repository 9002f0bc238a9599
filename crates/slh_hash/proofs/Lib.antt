mod Grouped
mod Pieces
mod Placed
mod Started
pub mod PairRows
mod ChainEnds
mod CountedHashes
pub mod KeyMessages
