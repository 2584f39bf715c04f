-- Laws of the classes of bytes.
pub mod ClassTable
pub mod Disjoint
