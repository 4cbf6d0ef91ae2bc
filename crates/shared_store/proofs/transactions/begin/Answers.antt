use Rattle.std.proofs.Common.{refl}
use Rattle.shared_store.proofs.PassLemmas.{begins_open}
use Rattle.shared_store.proofs.transactions.begin.Goals as goal

pub returns-clause-opened : goal.returns-clause-opened
returns-clause-opened g c =
    begins_open c.args.store.now c.args.pass.now _ c.in-Ok.begun c.requires.idle c.in-Ok.ensures.opened
    c.in-Ok.ensures.begun refl refl refl refl refl c.in-Ok.ensures.account
