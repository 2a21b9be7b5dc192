-- Two half cabinets joined: what the third table and its history are, what the call answers, what that comes to in plain words, and what it promises.
pub mod Joined
pub mod JoinSays
pub mod JoinContracts
pub mod Promises
pub mod Examples
