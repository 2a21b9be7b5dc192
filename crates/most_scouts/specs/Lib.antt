-- The most scouts of an open.
pub mod Unarrived
pub mod Reaching
pub mod Promises
