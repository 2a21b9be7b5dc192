-- What the program's failures say.
pub mod Failures
