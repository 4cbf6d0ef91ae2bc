use Rattle.std.proofs.Common.{◌≡◌, subst}
use Rattle.std.specs.Prelude.{true}
use Rattle.std.specs.List.{AllByRecursion}
use Rattle.row_table.specs.HeadMap.Heads.{heads_placed}
use Rattle.version_segment.specs.Resting.{RestingRows}
use Rattle.version_segment.proofs.SettleLemmas.{places_valued}
use Rattle.version_segment.proofs.resting.Resting.has_values.Goals as goal

pub returns : goal.returns
returns c = λ e.
    let r = c.self.inside.heads in
    subst (λ (x : RestingRows). AllByRecursion (λ h. h.has_value ≡ true) x.rows) c.self.view_is
    (places_valued r.chains r.count (heads_placed r.heads.entries) (c.all_have_values.ensures e))
