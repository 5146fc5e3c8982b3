pub mod CaughtFollows
pub mod Handing
pub mod ScriptFollows
