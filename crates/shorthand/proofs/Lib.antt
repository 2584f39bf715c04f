-- Laws of the shorthand's call.
pub mod Lining
pub mod LineFound
pub mod Going
pub mod Compiling
pub mod Promised
