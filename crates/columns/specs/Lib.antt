-- Numbers in fixed columns.
pub mod Column
pub mod Scan
