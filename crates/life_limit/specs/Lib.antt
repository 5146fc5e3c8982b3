pub mod Catch
pub mod History
pub mod Length
pub mod Limit
pub mod LimitBody
