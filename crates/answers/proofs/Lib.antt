-- The laws of answers, and what a send says.
pub mod Opens
pub mod PassOnBytes
pub mod SendAnswer
pub mod AfterSend
pub mod SendSays
pub mod EnabledBits
