use Rattle.worker_calls.proofs.PartLemmas.{IsReading}
use Rattle.worker_calls.proofs.one_list.read_rows.Given as goal

abbrev pub invariant-portions : goal.invariant-portions
invariant-portions g l = IsReading l.store l.fn.pass l.pass l.cursor l.list.items
