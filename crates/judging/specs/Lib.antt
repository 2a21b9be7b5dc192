-- Judging a book against a table: the tests, what a yes means, and what the inner functions ask and answer.
pub mod Judged
pub mod Loadable
pub mod JudgeContracts
