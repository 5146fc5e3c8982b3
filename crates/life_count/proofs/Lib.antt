pub mod InFlightFollows
pub mod LiveMoves
