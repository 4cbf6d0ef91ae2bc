-- Modules of teseo_program that crates above name.
pub use Rattle.teseo_program.proofs.EndLemmas
pub use Rattle.teseo_program.proofs.LawLemmas
pub use Rattle.teseo_program.proofs.NamedLemmas
pub use Rattle.teseo_program.proofs.OutcomeLemmas
pub use Rattle.teseo_program.proofs.PreparedLemmas
