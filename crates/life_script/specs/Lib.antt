pub mod Headers
pub mod Reading
pub mod Reply
pub mod Scenario
pub mod Texts
pub mod Told
pub mod Valid
