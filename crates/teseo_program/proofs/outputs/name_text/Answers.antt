use Rattle.teseo_program.proofs.NameLemmas.{name_is_text}
use Rattle.teseo_program.proofs.outputs.name_text.Goals as goal

pub unreachable-requires : goal.unreachable-requires
unreachable-requires c = absurd (c.in-Err.ensures.cases.0 (rw c.as_slice.ensures (name_is_text c.args.file.now c.requires)))
