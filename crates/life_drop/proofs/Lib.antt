pub mod Closures
pub mod DropFollows
pub mod NoteFollows
