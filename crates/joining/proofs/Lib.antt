-- The laws of two half cabinets joined: the history of both, what the third table says, that this leaves no choice, and its numbers; and, of the code, the bytes that it writes.
pub mod HalfNodes
pub mod HalfPaths
pub mod FirstOf
pub mod BothHalves
pub mod JoinedView
pub mod JoinedHistory
pub mod JoinSays
pub mod JoinNumbers
pub mod SaysExactly
pub mod Parts
pub mod Shown
pub mod Joining
pub mod Answering
