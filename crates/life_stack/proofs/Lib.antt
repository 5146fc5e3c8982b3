pub mod ProgramLaws
pub mod ServiceLaws
pub mod StackLaws
pub mod TableLaws
