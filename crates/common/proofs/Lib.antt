-- Laws that belong to no one layer.
pub mod Tests
pub mod Every
pub mod Lists
pub mod From
pub mod Lowest
pub mod LowestBit
pub mod Refusals
pub mod Runs
