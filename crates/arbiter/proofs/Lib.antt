-- The laws of the arbiter's choice that the functions' proofs cite, and the theorem about lists of calls.
pub mod Order
pub mod Requests
pub mod Answers
pub mod Waiting
pub mod Examples
