pub mod Program
pub mod Service
pub mod Stack
pub mod Table
