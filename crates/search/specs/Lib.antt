-- What the two halves of the search ask and answer.
pub mod SearchContracts
