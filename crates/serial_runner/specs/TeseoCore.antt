-- Modules of teseo_core that crates above name.
pub use Rattle.teseo_core.specs.Keeping
pub use Rattle.teseo_core.specs.Passes
