-- The sheet of an array of rules.
pub mod Listing
