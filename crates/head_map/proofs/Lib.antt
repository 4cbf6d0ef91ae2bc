pub mod KeyedLemmas
pub mod HeadLemmas
pub mod PlaceLemmas
pub mod UndoChain
