-- The letters of a text and their numbers.
pub mod Numbering
