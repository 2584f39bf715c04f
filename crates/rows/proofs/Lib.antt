-- A field and a row, written from the last byte on.
pub mod Writing
pub mod RowWriting
