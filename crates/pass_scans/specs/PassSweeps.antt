-- Modules of pass_sweeps that crates above name.
pub use Rattle.pass_sweeps.specs.Pruning
