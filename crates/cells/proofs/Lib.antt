-- The numbers of cells are small.
pub mod Numbers
