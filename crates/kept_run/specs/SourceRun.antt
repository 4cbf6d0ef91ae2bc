-- Modules of source_run that crates above name.
pub use Rattle.teseo_program.specs.Input
pub use Rattle.teseo_program.specs.Leaves
pub use Rattle.teseo_program.specs.Parsing
pub use Rattle.teseo_program.specs.Requests
pub use Rattle.teseo_program.specs.Running
