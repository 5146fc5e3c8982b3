pub mod CodeSets
pub mod Numbers
