-- What an input line asks (Listing 4 to 8).
pub mod Line
pub mod Sentences
pub mod ReadLine
