-- A job's answer, and its sends as the code opens them.
pub mod JobValues
pub mod JobContracts
