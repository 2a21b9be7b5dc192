-- Laws of answering an input line.
pub mod WrittenLine
