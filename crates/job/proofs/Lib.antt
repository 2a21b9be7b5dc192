-- The laws of a job's sends, as the code opens them.
pub mod SendsInTurn
