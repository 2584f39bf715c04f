-- Laws of the output.
pub mod Accepting
pub mod Printed
pub mod Joined
pub mod Whole
pub mod Length
pub mod OneOutput
