-- From the walk to the promise of a question, and what any result that meets it says.
pub mod Asked
pub mod Asking
pub mod Ready
pub mod Questioned
pub mod TableOne
pub mod Result
pub mod Promised
pub mod Following
