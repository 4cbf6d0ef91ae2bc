use Rattle.std.proofs.Common.{refl}
use Rattle.shared_store.proofs.PassLemmas.{reads_keep}
use Rattle.shared_store.proofs.reads.weight.Goals as goal

pub returns-clause-kept : goal.returns-clause-kept
returns-clause-kept g c =
    reads_keep c.args.store.now c.args.pass.now _ c.requires.opened c.value.ensures.back.none c.value.ensures.state
    c.value.ensures.back.pin c.value.ensures.back.same refl refl refl refl
