-- Tables stored by position, and restored: what the calls promise, the laws of order 9, and how rows of cells become columns.
pub mod Layout
pub mod Refusals
pub mod Archive
pub mod Tally
pub mod StoredTable
pub mod Turn
