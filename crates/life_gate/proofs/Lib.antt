mod Closures
mod Matching
mod Refused
pub mod GateFollows
pub mod MediaAccepted
pub mod MediaLists
pub mod MediaTypes
