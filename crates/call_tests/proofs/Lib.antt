-- The laws of the calls' tests.
pub mod Stopping
pub mod PartnersHeld
pub mod LinkHeld
