-- How a question ends: what is closed, and what is answered.
pub mod Reply
pub mod Closing
pub mod Finish
