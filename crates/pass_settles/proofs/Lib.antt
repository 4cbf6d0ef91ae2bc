pub mod MarkLemmas
pub mod StepLemmas
pub mod RaisedLemmas
pub mod ChainLemmas
pub mod KeyLemmas
pub mod SweptLemmas
