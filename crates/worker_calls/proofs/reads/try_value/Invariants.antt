use Rattle.graph_model.specs.Rows.{value_at}
use Rattle.reader_parts.specs.SharedStore.Passes.{KeepsOpen, view_in}
use Rattle.reader_parts.specs.OptimisticRead.Tried.{IsValueOf}
use Rattle.worker_calls.proofs.reads.try_value.Given as goal

abbrev pub invariant-tries : goal.invariant-tries
invariant-tries l =
    KeepsOpen l.store l.fn.pass l.pass × IsValueOf l.tried (value_at (view_in l.store l.fn.pass) l.key)
