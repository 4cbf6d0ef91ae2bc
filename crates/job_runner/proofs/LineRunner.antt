-- Modules of line_runner that crates above name.
pub use Rattle.line_runner.proofs.AccountLemmas
pub use Rattle.line_runner.proofs.CoreLemmas
pub use Rattle.line_runner.proofs.ViewLemmas
