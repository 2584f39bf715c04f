-- The checker of certificates.
pub mod Rejections
pub mod Checker
pub mod Steps
pub mod Proper
