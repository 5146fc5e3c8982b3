pub mod Closures
pub mod DefaultsFollow
pub mod HookOrder
pub mod RequestOrder
pub mod TraceFollows
