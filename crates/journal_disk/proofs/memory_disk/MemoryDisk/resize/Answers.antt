use Rattle.std.proofs.Common.{◌-◌, ◌++◌, take, replicate, refl, sym, ◌∙◌, ap}
use Rattle.std.specs.Prelude.{option_copied}
use Rattle.journal_disk.specs.Disk.{content}
use Rattle.journal_disk.specs.declared.memory_disk.Step.TheVariants.{Wrote, Sized}
use Rattle.journal_disk.specs.MemoryDisk.{state_of}
use Rattle.journal_disk.proofs.TornLemmas.{replaced}
use Rattle.journal_disk.proofs.memory_disk.MemoryDisk.resize.Goals as goal

pub returns-clause-ok : goal.returns-clause-ok
returns-clause-ok c = (
  c.in-Some.file.now,
  sym (ap (λ d. content (state_of d)) c.next_fails.ensures.rest) ∙ sym c.chosen_bytes.ensures ∙ ap option_copied c.in-Some.is,
  replaced _ _ _ _ c.args.self.now c.next_fails.new.self c.replace.new.self _
      (c.in_ok-resize.ensures.items ∙ (λ i. take c.args.size (c.in_ok-other.ensures.items i) ++ replicate (c.args.size - c.in_ok-other.ensures.len i) 0)) refl c.next_fails.ensures.rest c.in_ok-replace.ensures.ok,
)
