use Rattle.std.proofs.Common.{refl}
use Rattle.shared_store.proofs.PassLemmas.{reads_keep, view_ends_with_keys}
use Rattle.shared_store.proofs.reads.scan_step.Goals as goal

pub returns-clause-kept : goal.returns-clause-kept
returns-clause-kept g c =
    reads_keep c.args.store.now c.args.pass.now _ c.requires.opened c.scan.ensures.back.none c.scan.ensures.state
    c.scan.ensures.back.pin c.scan.ensures.back.same refl refl refl refl

pub scan-requires-clause-ends : goal.scan-requires-clause-ends
scan-requires-clause-ends g c = view_ends_with_keys c.args.store.now c.args.pass.now c.requires.opened
