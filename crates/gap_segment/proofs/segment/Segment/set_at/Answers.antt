use Rattle.std.proofs.Common.{◌<◌, length, sym, ap}
use Rattle.std.proofs.Math.ListN.{length-set}
use Rattle.gap_segment.proofs.FencedLemmas.{fenced_weight, with_weight-set}
use Rattle.gap_segment.proofs.segment.Segment.set_at.Goals as goal

pub invariant_of-self : goal.invariant_of-self
invariant_of-self c =
    let there : c.args.place < length c.self.inside.rows.items = rw (← c.self.view_is) at c.requires in
    (rw (← with_weight-set c.self.inside.rows.items c.args.place c.args.weight c.index_mut.result.now there c.index_mut.ensures.value) (fenced_weight _ c.args.place c.args.weight c.self.invariant.0), simp length-set c.self.invariant.1, c.self.invariant.2)

pub returns : goal.returns
returns c =
    let there : c.args.place < length c.self.inside.rows.items = rw (← c.self.view_is) at c.requires in
    rw (← c.self.view_is) (ap (λ rows. record { low = c.self.inside.low; high = c.self.inside.high; rows = rows }) (sym (with_weight-set c.self.inside.rows.items c.args.place c.args.weight c.index_mut.result.now there c.index_mut.ensures.value)))
