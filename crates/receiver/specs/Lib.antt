-- A receive channel: what it does with packets, the machine that every sequence of packets agrees with, and that promise.
pub mod Receive
pub mod Machine
pub mod Promises
