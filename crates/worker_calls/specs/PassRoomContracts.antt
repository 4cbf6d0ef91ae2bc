-- Modules of pass_room that crates above name.
pub use Rattle.pass_room.specs.contracts.own
