-- When a table is sound, and how it is tested.
pub mod Sound
pub mod SoundTest
pub mod TableTests
pub mod Counting
pub mod TestContracts
