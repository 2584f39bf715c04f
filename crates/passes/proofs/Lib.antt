-- Why the passes do what they promise.
pub mod Rows
pub mod Looking
pub mod Blanking
pub mod Refusing
