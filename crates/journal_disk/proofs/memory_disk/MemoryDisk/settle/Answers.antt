use Rattle.std.proofs.Common.{◌++◌, ◌∷◌, [], sym, ◌∙◌, ap}
use Rattle.std.specs.Prelude.{Some, option_copied}
use Rattle.journal_disk.specs.Disk.{content}
use Rattle.journal_disk.specs.declared.memory_disk.Step.TheVariants.{Synced}
use Rattle.journal_disk.specs.MemoryDisk.{state_of, steps_of}
use Rattle.journal_disk.proofs.memory_disk.MemoryDisk.settle.Goals as goal

pub returns-clause-ok : goal.returns-clause-ok
returns-clause-ok c = record {
  copy = c.in_ok-file.file;
  read = sym (ap (λ d. content (state_of d)) c.next_fails.ensures.rest) ∙ sym c.chosen_bytes.ensures ∙ ap option_copied c.in-Some.is ∙ ap Some (sym c.in_ok-file.ensures.items);
  steps = c.in_ok-keep.ensures.kept ∙ ap (λ d. steps_of d ++ Synced c.in_ok-file.file ∷ []) c.next_fails.ensures.rest;
}
