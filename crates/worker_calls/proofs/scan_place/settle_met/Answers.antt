use Rattle.std.proofs.Common.{refl}
use Rattle.reader_parts.specs.SharedStore.Passes.{account_of}
use Rattle.worker_calls.proofs.CallLemmas.{legal_ready}
use Rattle.worker_calls.proofs.PropLemmas.{is_ready}
use Rattle.worker_calls.proofs.RoomLemmas.{goes_on}
use Rattle.worker_calls.proofs.scan_place.settle_met.Goals as goal

pub returns-in_default-clause-legal : goal.returns-in_default-clause-legal
returns-in_default-clause-legal g c =
    legal_ready c.args.store.now c.args.pass.now (is_ready c.args.store.now c.args.pass.now c.requires.ready)

pub returns-in_default-clause-reads : goal.returns-in_default-clause-reads
returns-in_default-clause-reads g c =
    goes_on (account_of c.args.store.now c.args.pass.now) (account_of c.args.store.now c.args.pass.now) refl
