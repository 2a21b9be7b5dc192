-- Texts: what Listing says of numbers, lines, fields and printed lines, whatever they are of.
pub mod Text
pub mod Lines
pub mod Row
pub mod Written
pub mod Above
