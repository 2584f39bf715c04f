-- Why a correction and a further question keep their promises, and what follows.
pub mod KeptRight
pub mod Refusing
pub mod Calling
pub mod Starting
pub mod Testing
pub mod Asked
pub mod AskedFurther
pub mod Answered
pub mod Promised
pub mod PromisedFurther
pub mod Unshown
pub mod Shared
