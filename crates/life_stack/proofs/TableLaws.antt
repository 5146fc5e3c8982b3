pub mod Acts
pub mod Answering
pub mod Bounds
pub mod Drops
pub mod Failing
pub mod FirstAnswers
pub mod Quiet
pub mod Traces
