pub mod Caught
pub mod Handing
pub mod History
pub mod Script
