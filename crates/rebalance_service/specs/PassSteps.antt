-- Modules of pass_steps that crates above name.
pub use Rattle.worker_calls.specs.PassSteps.Passes
