-- Modules of line_runner that crates above name.
pub use Rattle.line_runner.specs.Kernels
pub use Rattle.line_runner.specs.Phases
pub use Rattle.line_runner.specs.Scanning
pub use Rattle.line_runner.specs.Turns
