use Rattle.std.proofs.Common.{subst}
use Rattle.row_table.specs.HeadMap.Heads.{heads_placed}
use Rattle.version_segment.specs.Resting.{RestingRows, CanSettle}
use Rattle.version_segment.proofs.SettleLemmas.{places_settle}
use Rattle.version_segment.proofs.resting.Resting.can_settle.Goals as goal

pub settle_all-requires : goal.settle_all-requires
settle_all-requires c = c.self.invariant.0.heads

pub returns : goal.returns
returns c = λ e.
    let r = c.self.inside.heads in
    subst (λ (x : RestingRows). CanSettle c.args.by c.args.horizon x.rows) c.self.view_is
    (places_settle c.args.by c.args.horizon r.chains r.count (heads_placed r.heads.entries) (c.settle_all.ensures e))
