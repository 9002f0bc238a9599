pub mod Sink
pub mod Blocks
pub mod Positions
pub mod Serial
pub mod Gen
pub mod Unread
