pub mod Examples
pub mod Stack
