use Rattle.std.proofs.Common.{◌≡◌, ap, sym, subst, Some}
use Rattle.std.specs.Prelude.{slice_get}
use Rattle.row_table.specs.HeadMap.Heads.{heads_placed}
use Rattle.version_segment.specs.Resting.{RestingRows}
use Rattle.version_segment.proofs.SettleLemmas.{behind_place, no_pairs}
use Rattle.version_segment.proofs.resting.Resting.changed_before.Goals as goal

pub returns-clause-between : goal.returns-clause-between
returns-clause-between c = λ p h lt after at.
    let r = c.self.inside.heads in
    no_pairs r.chains r.count (heads_placed r.heads.entries) p h
    (c.last_before.ensures.between p (behind_place c.last_before.result p after) lt)
    (subst (λ (x : RestingRows). slice_get x.rows p ≡ Some h) (sym c.self.view_is) at)
