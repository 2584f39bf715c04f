-- How cells and pairs are held.
pub mod Packed
