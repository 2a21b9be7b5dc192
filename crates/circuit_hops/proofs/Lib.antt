-- The laws of counting the hops of a circuit.
pub mod OneKept
pub mod OneBit
pub mod Seen
pub mod Ways
pub mod CountsHops
pub mod Following
