-- Why a step does what it says.
pub mod Within
pub mod Looking
pub mod Calls
pub mod Stepped
