pub mod SendLemmas
pub mod SharedStore
pub mod SpareLemmas
pub mod SyncLemmas
pub mod WorkerCalls
