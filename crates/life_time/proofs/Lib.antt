pub mod DeadlineFollows
pub mod TimeoutFollows
pub mod Elapsing
