-- Laws of the numbering of letters.
pub mod Lettered
pub mod Progress
