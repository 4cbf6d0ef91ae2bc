use Rattle.std.proofs.Common.{◌∙◌, ap, sym, length}
use Rattle.row_table.specs.HeadMap.Heads.{heads_placed}
use Rattle.version_segment.specs.Resting.{RestingRows}
use Rattle.version_segment.proofs.RestLemmas.{count_places}
use Rattle.version_segment.proofs.resting.Resting.len.Goals as goal

pub returns : goal.returns
returns c = c.count.ensures ∙ sym (ap (λ (r : RestingRows). length r.rows) (sym c.self.view_is) ∙ count_places c.self.inside.heads.chains c.self.inside.heads.count (heads_placed c.self.inside.heads.heads.entries))
