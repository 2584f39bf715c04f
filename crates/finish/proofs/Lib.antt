-- Laws of the end of a question.
pub mod Entry
pub mod Closing
