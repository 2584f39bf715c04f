-- How a field is written.
pub mod Leading
