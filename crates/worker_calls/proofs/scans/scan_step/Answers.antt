use Rattle.std.proofs.Common.{refl}
use Rattle.worker_calls.proofs.ScanLemmas.{kept_twice, scans_anew}
use Rattle.worker_calls.proofs.scans.scan_step.Goals as goal

pub returns-then-read_portion-clause-answer : goal.returns-then-read_portion-clause-answer
returns-then-read_portion-clause-answer g c =
    scans_anew c.args.store.now c.args.pass.now c.tries.pass c.args.cursor.now c.read_portion.new.cursor
    c.read_portion.new.rows c.tries.invariant (c.read_portion.ensures.answer c.if-read_portion.true)

pub returns-clause-answer : goal.returns-clause-answer
returns-clause-answer g c =
    scans_anew c.args.store.now c.args.pass.now c.tries.pass c.args.cursor.now c.scan_step.new.cursor
    c.scan_step.new.rows c.tries.invariant c.scan_step.ensures.answer
