pub mod CatchFollows
mod Closures
pub mod Lengths
pub mod LimitFollows
