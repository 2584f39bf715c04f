-- One byte corrected, and further questions: the refusals and the promises of the calls.
pub mod Refusals
pub mod Call
pub mod Correction
pub mod Unshown
pub mod Further
pub mod Shared
