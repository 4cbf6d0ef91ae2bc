-- Modules of pass_sweeps that crates above name.
pub use Rattle.pass_prunes.specs.PassSweeps.Stepping
pub use Rattle.pass_prunes.specs.PassSweeps.Sweeping
