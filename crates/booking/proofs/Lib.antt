-- What writing a book and judging one come to.
pub mod BookStep
pub mod JudgeStep
pub mod Sizes
