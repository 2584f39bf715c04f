-- Why what is next is so.
pub mod Turning
