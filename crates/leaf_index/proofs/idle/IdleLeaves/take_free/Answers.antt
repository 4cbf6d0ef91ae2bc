use Rattle.std.proofs.Common.{arith}
use Rattle.leaf_index.specs.Idle.{leaves_of}
use Rattle.leaf_index.proofs.IdleLemmas.{last_exists}
use Rattle.leaf_index.proofs.idle.IdleLeaves.take_free.Goals as goal

pub without_last-self-inside-requires-clause-exists : goal.without_last-self-inside-requires-clause-exists
without_last-self-inside-requires-clause-exists c =
    last_exists c.self.inside.links.items _ c.self.inside.free (leaves_of c.self.inside.links.items c.self.inside.retired) c.self.invariant.once (omega (arith, c.if-self-eq0.false))
