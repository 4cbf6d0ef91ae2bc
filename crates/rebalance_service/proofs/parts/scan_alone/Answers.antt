use Rattle.worker_calls.proofs.CallLemmas.{open_kept}
use Rattle.worker_calls.proofs.PartLemmas.{rows_at_start}
use Rattle.rebalance_service.proofs.parts.scan_alone.Goals as goal

pub lists_alone-requires-clause-opened : goal.lists_alone-requires-clause-opened
lists_alone-requires-clause-opened g c = open_kept c.args.store.now c.args.pass.now c.requires.ready c.requires.current

pub returns-clause-rows : goal.returns-clause-rows
returns-clause-rows g c =
    rows_at_start c.args.store.now c.args.pass.now c.lists_alone.result
    (open_kept c.args.store.now c.args.pass.now c.requires.ready c.requires.current) c.lists_alone.ensures.rows
