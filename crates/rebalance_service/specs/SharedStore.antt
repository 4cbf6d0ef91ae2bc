-- Modules of shared_store that crates above name.
pub use Rattle.worker_calls.specs.SharedStore.Ends
pub use Rattle.worker_calls.specs.SharedStore.Loading
pub use Rattle.worker_calls.specs.SharedStore.Passes
pub use Rattle.worker_calls.specs.SharedStore.Totals
