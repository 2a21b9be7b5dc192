-- The laws of the sweep.
pub mod Sweep
pub mod Asks
