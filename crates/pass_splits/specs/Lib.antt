pub mod Splitting
pub mod PassLeaves
pub mod PassMoves
