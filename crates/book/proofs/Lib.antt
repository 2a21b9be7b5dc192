-- The laws of books.
pub mod Lines
pub mod LookupAnswers
pub mod WellFormedBook
pub mod WrittenBook
pub mod BookOfSound
pub mod BookExamples
