use Rattle.std.proofs.Common.{refl}
use Rattle.row_table.proofs.ChangeLemmas.{nothing_pruned}
use Rattle.version_segment.proofs.segment.VersionSegment.prune.Goals as goal

pub returns-then-is_settled-clause-pruned : goal.returns-then-is_settled-clause-pruned
returns-then-is_settled-clause-pruned g c =
    let none = c.is_settled.ensures c.if-is_settled.true in
    rw (← c.self.view_is) (record {
      low = refl;
      high = refl;
      rows = nothing_pruned (g.S.States.knowledge c.args.states.now).stamps c.args.horizon c.self.inside.rows.heads.entries c.self.inside.chains c.self.inside.rows.fenced.rows none;
    })
