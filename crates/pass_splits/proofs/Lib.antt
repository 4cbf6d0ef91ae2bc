pub mod FreeLemmas
pub mod DivideLemmas
pub mod SplitLemmas
pub mod PassMoves
