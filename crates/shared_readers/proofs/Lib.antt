pub mod LendLemmas
pub mod ReadLemmas
pub mod ScanLemmas
pub mod SendLemmas
pub mod LeafArrayMade
pub mod RowWrites
pub mod SharedStore
pub mod StoreRelation
