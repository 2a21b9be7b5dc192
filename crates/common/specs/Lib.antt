-- Definitions that belong to no one layer.
pub mod Tests
pub mod Lists
pub mod Decides
pub mod Refusals
pub mod FirstAfter
pub mod SomeBelow
