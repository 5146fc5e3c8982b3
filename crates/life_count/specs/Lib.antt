pub mod Emitter
pub mod History
pub mod InFlight
pub mod LiveNumber
pub mod Meter
