pub mod DrivenFollows
pub mod Keeping
pub mod Naming
pub mod Refusing
pub mod Steps
pub mod Tracing
