-- What is next at a pair, and its line.
pub mod Turning
