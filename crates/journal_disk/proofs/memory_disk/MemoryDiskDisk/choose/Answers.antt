use Rattle.std.proofs.Common.{◌∙◌, ap}
use Rattle.journal_disk.specs.MemoryDisk.{steps_of}
use Rattle.journal_disk.proofs.StepLemmas.{goes_on, stays}
use Rattle.journal_disk.proofs.memory_disk.MemoryDiskDisk.choose.Goals as goal

pub returns-in-Ok-clause-time : goal.returns-in-Ok-clause-time
returns-in-Ok-clause-time c = goes_on _ _ _ c.in-Ok.ensures.step

pub returns-in-Err-clause-time : goal.returns-in-Err-clause-time
returns-in-Err-clause-time c = stays _ _ (ap steps_of c.fail.ensures.rest ∙ c.in-Err.ensures.err.steps)
