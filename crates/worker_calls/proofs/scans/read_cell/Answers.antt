use Rattle.reader_parts.specs.SharedStore.Passes.{account_of}
use Rattle.worker_calls.proofs.KeptLemmas.{found_open, seen_snapshot, seen_run}
use Rattle.worker_calls.proofs.scans.read_cell.Goals as goal

pub read_packed-requires-clause-begun : goal.read_packed-requires-clause-begun
read_packed-requires-clause-begun g c =
    seen_snapshot c.args.store.now c.args.pass.now c.requires.opened c.latest-begun.result c.latest-begun.ensures.by c.latest-begun.ensures.start

pub returns-clause-kept : goal.returns-clause-kept
returns-clause-kept g c =
    let read = c.read_packed.ensures in
    found_open c.args.store.now c.args.pass.now c.read_packed.new.pass c.requires.opened read.idle.of read.idle.none read.found

pub returns-clause-run : goal.returns-clause-run
returns-clause-run g c =
    seen_run c.args.store.now c.args.pass.now c.requires.opened c.read_packed.result c.args.from c.args.until c.read_packed.new.run
    c.read_packed.ensures.run
