-- Modules of teseo_program that crates above name.
pub use Rattle.teseo_program.specs.Laws
pub use Rattle.teseo_program.specs.Outcomes
pub use Rattle.teseo_program.specs.Prepared
pub use Rattle.teseo_program.specs.Sinks
