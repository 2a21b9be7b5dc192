-- The routing arbiter: what a call answers, what is chosen once more without a list, and lists of calls.
pub mod Arbiter
pub mod Chosen
pub mod ArbiterContracts
pub mod Calls
