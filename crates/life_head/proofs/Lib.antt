pub mod RequestIdFollows
