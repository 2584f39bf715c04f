-- From the question to the promise of a verdict, and what any result that meets it says.
pub mod Judged
pub mod Promised
