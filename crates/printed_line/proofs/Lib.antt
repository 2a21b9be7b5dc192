-- Laws of the printed line of an input line.
pub mod Answers
pub mod Letters
