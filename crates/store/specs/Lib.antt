-- Several tables: what the calls on them and joins of them leave, what is known of each table, and what it is for a table and what is known of it to agree.
pub mod Store
pub mod Learns
pub mod Promises
pub mod Examples
