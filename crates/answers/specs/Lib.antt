-- What a pass and a whole send on a lent table answer, and its bytes afterwards; and what a send says.
pub mod SendOnTable
pub mod Opens
pub mod PassOnBytes
pub mod SendAnswer
pub mod SendSays
