-- What following helix paths asks and answers.
pub mod HelixContracts
