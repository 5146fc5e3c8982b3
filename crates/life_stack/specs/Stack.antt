pub mod Course
pub mod Drive
pub mod Driven
pub mod Keeping
pub mod Tracing
