mod CutLemmas
mod JoinLemmas
mod ListLemmas
mod SendLemmas
mod SplitLemmas
pub mod LeafArrayMade
pub mod RowWrites
pub mod SharedStore
pub mod StoreRelation
