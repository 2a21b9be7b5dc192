-- The laws of soundness.
pub mod Soundness
pub mod LinkCount
pub mod Passing
pub mod Counting
pub mod CountedChannel
pub mod Unheld
pub mod Deciding
