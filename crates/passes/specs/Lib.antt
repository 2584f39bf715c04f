-- What the passes of a correction over a table promise.
pub mod Passes
