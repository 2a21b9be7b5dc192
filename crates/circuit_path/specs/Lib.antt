-- The path of a circuit from the links that it holds: when a circuit stands on one, when it is open, how a trace writes it, and how the code follows it.
pub mod CircuitSound
pub mod Traced
pub mod PathOf
pub mod OpenCircuit
pub mod Follow
