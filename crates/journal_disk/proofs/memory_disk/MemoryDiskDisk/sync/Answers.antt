use Rattle.std.proofs.Common.{sym, ◌∙◌, ap, subst}
use Rattle.std.specs.Prelude.{Some}
use Rattle.journal_disk.specs.MemoryDisk.{steps_of}
use Rattle.journal_disk.specs.Steps.{outcomes, unknown}
use Rattle.journal_disk.proofs.StepLemmas.{goes_on, stays, synced}
use Rattle.journal_disk.proofs.memory_disk.MemoryDiskDisk.sync.Goals as goal

pub returns-in-Ok-clause-durable : goal.returns-in-Ok-clause-durable
returns-in-Ok-clause-durable c = λ image left.
    let s = c.in-Ok.ensures.ok in
    s.read ∙ ap Some (sym (synced _ _ s.copy s.steps image left))

pub returns-in-Ok-clause-time : goal.returns-in-Ok-clause-time
returns-in-Ok-clause-time c = goes_on _ _ _ c.in-Ok.ensures.ok.steps

pub returns-in-Err-clause-time : goal.returns-in-Err-clause-time
returns-in-Err-clause-time c = stays _ _ (ap steps_of c.fail.ensures.rest ∙ c.in-Err.ensures.err)

pub returns-in-Err-clause-crash : goal.returns-in-Err-clause-crash
returns-in-Err-clause-crash c = λ image left.
    subst (λ steps. outcomes unknown steps image) (ap steps_of c.fail.ensures.rest ∙ c.in-Err.ensures.err) left
