-- What the program `readentry` writes.
pub mod Output
