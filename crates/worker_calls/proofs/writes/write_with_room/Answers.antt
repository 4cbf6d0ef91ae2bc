use Rattle.std.proofs.Common.{subst}
use Rattle.std.specs.Prelude.{Ok}
use Rattle.graph_model.specs.Account.{Account}
use Rattle.graph_model.specs.AccountSteps.{WritesBy}
use Rattle.pass_room.specs.PassWritesDeclared.making.Written.{Written}
use Rattle.reader_parts.specs.SharedStore.Passes.{account_of}
use Rattle.reader_parts.specs.SharedStore.Writes.{WritesOver}
use Rattle.worker_calls.proofs.RoomLemmas.{writes_after}
use Rattle.worker_calls.proofs.writes.write_with_room.Goals as goal

pub returns-in-Ok-Done-clause-writes : goal.returns-in-Ok-Done-clause-writes
returns-in-Ok-Done-clause-writes g c =
    let old = account_of c.args.store.now c.args.pass.now in
    let mid = account_of c.args.store.now c.tries.pass in
    let new = account_of c.args.store.now c.write.new.pass in
    let done = subst (λ (x : Written). WritesOver mid c.args.write (Ok x) new) c.in-Ok-Done.field-0-is
    c.in-Ok-Done.ensures.writes in
    writes_after old mid (λ (a : Account). WritesBy a c.args.write (Ok tt) new) c.tries.invariant.3 done
