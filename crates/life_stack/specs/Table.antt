pub mod Decision
pub mod Examples
pub mod Handed
pub mod Request
pub mod Story
pub mod Traced
