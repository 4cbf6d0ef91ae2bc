use Rattle.std.proofs.Common.{subst}
use Rattle.graph_model.specs.AccountSteps.{ReadsBy}
use Rattle.graph_model.specs.Scans.{ScansBy}
use Rattle.reader_parts.specs.SharedStore.Passes.{account_of}
use Rattle.worker_calls.proofs.CallLemmas.{at_start, open_kept, ready_open}
use Rattle.worker_calls.proofs.calls.scan_step.Goals as goal

pub scan_step-requires-clause-opened : goal.scan_step-requires-clause-opened
scan_step-requires-clause-opened g c = open_kept c.args.store.now c.args.pass.now c.requires.ready c.requires.current

pub settle_met-requires : goal.settle_met-requires
settle_met-requires g c = record {
  ready = ready_open c.args.store.now c.scan_step.new.pass c.scan_step.ensures.kept.opened;
}

pub returns-clause-reads : goal.returns-clause-reads
returns-clause-reads g c =
    subst (λ a. ReadsBy a (account_of c.args.store.now c.settle_met.new.pass)) c.scan_step.ensures.kept.account
    c.settle_met.ensures.reads

pub returns-clause-answer : goal.returns-clause-answer
returns-clause-answer g c =
    at_start c.args.store.now c.args.pass.now (λ g. ScansBy g c.args.cursor.now c.scan_step.new.cursor c.scan_step.new.rows)
    (open_kept c.args.store.now c.args.pass.now c.requires.ready c.requires.current) c.scan_step.ensures.answer
