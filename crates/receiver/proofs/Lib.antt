-- What a packet does to a channel, clause by clause, as the functions' proofs cite it; and the theorem about lists of packets.
pub mod Steps
pub mod Held
pub mod Agreement
pub mod Examples
