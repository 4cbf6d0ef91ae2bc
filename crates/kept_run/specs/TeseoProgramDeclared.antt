-- Modules of teseo_program that crates above name.
pub use Rattle.teseo_program.specs.declared.left
pub use Rattle.teseo_program.specs.declared.outcome
pub use Rattle.teseo_program.specs.declared.prepare
