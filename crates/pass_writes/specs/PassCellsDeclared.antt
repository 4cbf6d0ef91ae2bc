-- Modules of pass_cells that crates above name.
pub use Rattle.pass_prunes.specs.PassCellsDeclared.own
pub use Rattle.pass_prunes.specs.PassCellsDeclared.taken
