pub mod Faults
pub mod Input
pub mod Lines
pub mod Output
pub mod Run
pub mod Status
pub mod Words
pub mod Writing
