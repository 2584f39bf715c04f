-- Why the comparison finds what differs.
pub mod Comparing
pub mod Parts
