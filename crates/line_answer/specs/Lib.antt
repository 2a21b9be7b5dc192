-- What answering an input line comes to.
pub mod LineWritten
