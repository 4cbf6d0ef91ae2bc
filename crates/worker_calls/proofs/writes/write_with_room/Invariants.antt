use Rattle.std.specs.Prelude.{◌≡◌}
use Rattle.reader_parts.specs.SharedStore.Passes.{IsOpen, account_of}
use Rattle.worker_calls.proofs.writes.write_with_room.Given as goal

-- the transaction is open still, and its account is as it was
abbrev pub invariant-tries : goal.invariant-tries
invariant-tries g l =
    (goal.iterator-tries g).can_next l.iterator' × (goal.iterator-tries g).is_finite l.iterator'
    × IsOpen l.store l.pass × (account_of l.store l.pass ≡ account_of l.store l.fn.pass)
