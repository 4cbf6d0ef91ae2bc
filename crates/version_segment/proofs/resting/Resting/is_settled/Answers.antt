use Rattle.std.proofs.Common.{◌≡◌, ◌∙◌, ap, sym, subst, length}
use Rattle.row_table.specs.HeadMap.Heads.{heads_placed}
use Rattle.version_segment.specs.Resting.{RestingRows, settled_rest}
use Rattle.version_segment.proofs.RestLemmas.{count_places, no_heads, settled_left}
use Rattle.version_segment.proofs.resting.Resting.is_settled.Goals as goal

pub returns : goal.returns
returns c = λ e.
    let entries = c.self.inside.heads.heads.entries in
    let chains = c.self.inside.heads.chains in
    let count = c.self.inside.heads.count in
    let none = no_heads entries (ap length (c.is_settled.ensures e)) in
    let left = settled_left chains count (heads_placed entries) none
    ∙ ap settled_rest (sym (count_places chains count (heads_placed entries))) in
    subst (λ (r : RestingRows). r.rows ≡ settled_rest (length r.rows)) c.self.view_is left
