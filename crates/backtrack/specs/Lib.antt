-- The backtracking machine's call.
pub mod Run
pub mod Frames
