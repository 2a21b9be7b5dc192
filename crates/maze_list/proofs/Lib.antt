-- Laws of the program.
pub mod Whole
