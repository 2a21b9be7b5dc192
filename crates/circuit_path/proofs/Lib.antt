-- The laws of following a circuit's links.
pub mod CircuitSound
pub mod Hops
pub mod Examine
pub mod Tracing
