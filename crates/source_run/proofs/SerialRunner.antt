-- Modules of serial_runner that crates above name.
pub use Rattle.serial_runner.proofs.EndLemmas
