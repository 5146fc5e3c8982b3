pub mod History
pub mod Ids
pub mod Propagating
pub mod Setting
