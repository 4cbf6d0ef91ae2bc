use Rattle.std.proofs.Common.{length, sym, ◌∙◌, ap}
use Rattle.std.specs.Option.{option_map}
use Rattle.journal_disk.specs.Crashes.{overwritten, resized}
use Rattle.journal_disk.specs.MemoryDisk.{state_of, steps_of}
use Rattle.journal_disk.proofs.StepLemmas.{goes_on, stays}
use Rattle.journal_disk.proofs.TornLemmas.{torn_follows, torn_stays, sized_follows, sized_stays, others_stay}
use Rattle.journal_disk.proofs.memory_disk.MemoryDiskDisk.write_at.Goals as goal

pub returns-in-Ok-clause-written : goal.returns-in-Ok-clause-written
returns-in-Ok-clause-written c = c.in-Ok.ensures.ok.2.put ∙ sym (ap (option_map _) c.in-Ok.ensures.ok.1)

pub returns-in-Ok-clause-crash : goal.returns-in-Ok-clause-crash
returns-in-Ok-clause-crash c = torn_follows c.args.at (length c.args.bytes.now) _ _ c.in-Ok.ensures.ok.2.steps

pub returns-in-Ok-clause-time : goal.returns-in-Ok-clause-time
returns-in-Ok-clause-time c = goes_on _ _ _ c.in-Ok.ensures.ok.2.steps

pub returns-in-Ok-clause-others : goal.returns-in-Ok-clause-others
returns-in-Ok-clause-others c = c.in-Ok.ensures.ok.2.others

pub returns-in-Ok-clause-ok : goal.returns-in-Ok-clause-ok
returns-in-Ok-clause-ok c = c.in-Ok.ensures.ok.2.faults

pub returns-in-Err-clause-crash : goal.returns-in-Err-clause-crash
returns-in-Err-clause-crash c = torn_stays c.args.at (length c.args.bytes.now) _ _ (ap steps_of c.fail.ensures.rest ∙ c.in-Err.ensures.err.steps)

pub returns-in-Err-clause-time : goal.returns-in-Err-clause-time
returns-in-Err-clause-time c = stays _ _ (ap steps_of c.fail.ensures.rest ∙ c.in-Err.ensures.err.steps)

pub returns-in-Err-clause-others : goal.returns-in-Err-clause-others
returns-in-Err-clause-others c = others_stay _ _ _ c.in-Err.ensures.err.state (ap state_of c.fail.ensures.rest)
