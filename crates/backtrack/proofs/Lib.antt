-- Laws of the machine and of the code's frames.
pub mod Stack
pub mod Plans
pub mod Sound
pub mod Unrolled
pub mod Moves
pub mod Loop
pub mod Part
pub mod Steps
pub mod Derived
pub mod Answered
pub mod Named
pub mod Stopped
pub mod Call
