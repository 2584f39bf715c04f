-- What class a byte has.
pub mod Class
pub mod Disjoint
