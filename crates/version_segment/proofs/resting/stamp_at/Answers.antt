use Rattle.std.proofs.Common.{◌≡◌, subst, sym}
use Rattle.row_table.specs.HeadMap.Heads.{heads_placed}
use Rattle.row_table.specs.Lists.{AreHeads}
use Rattle.version_segment.specs.RestingParts.{StampsRow}
use Rattle.version_segment.proofs.StampLemmas.{row_stamped}
use Rattle.version_segment.proofs.resting.stamp_at.Goals as goal

pub returns-clause-stamped : goal.returns-clause-stamped
returns-clause-stamped c =
    let old = c.args.heads.now.chains in
    let mid = c.stamp.new.self.chains in
    let new = c.stamp-2.new.self.chains in
    let row = c.get-row.result in
    let is : row ≡ heads_placed c.args.heads.now.heads.entries c.args.place = c.get-row.ensures in
    let at : AreHeads old row = subst (AreHeads old) (sym is) c.requires in
    subst (StampsRow c.args.by c.args.stamp old new) is
    (row_stamped old mid row at c.stamp.ensures.others c.args.by c.args.stamp new c.stamp.ensures.list c.stamp.ensures.spare
    c.stamp-2.ensures.list c.stamp-2.ensures.others c.stamp-2.ensures.spare)
