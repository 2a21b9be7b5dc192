-- Where a circuit and its receive channel meet.
pub mod Meets
