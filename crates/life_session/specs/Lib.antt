pub mod Acts
pub mod Course
pub mod Exchange
pub mod Moments
pub mod Report
pub mod Session
pub mod Table
