-- Modules of pass_leaves that crates above name.
pub use Rattle.pass_leaves.specs.contracts.own
