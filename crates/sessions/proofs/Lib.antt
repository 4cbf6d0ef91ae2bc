pub mod PropLemmas
pub mod StepLemmas
pub mod ScanLemmas
pub mod RetryLemmas
