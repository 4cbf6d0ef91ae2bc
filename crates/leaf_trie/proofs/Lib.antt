pub mod PathLemmas
pub mod ListLemmas
pub mod BranchLemmas
pub mod SearchLemmas
pub mod EditLemmas
pub mod RemovalLemmas
pub mod KeyLemmas
