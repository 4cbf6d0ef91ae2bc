-- Modules of pass_steps that crates above name.
pub use Rattle.shared_readers.specs.PassSteps.Passes
