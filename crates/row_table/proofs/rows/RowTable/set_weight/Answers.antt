use Rattle.std.proofs.Common.{◌≡◌, ◌∙◌, ap, length, arith}
use Rattle.gap_segment.specs.Fenced.{FencedRows}
use Rattle.head_map.specs.Heads.{heads_placed, keyed}
use Rattle.row_table.proofs.TableLemmas.{keyed_weight, length-with_weight}
use Rattle.row_table.proofs.rows.RowTable.set_weight.Goals as goal

pub invariant_of-self : goal.invariant_of-self
invariant_of-self c =
    let same : length c.set_at.new.self.rows ≡ length c.self.inside.rows.rows = ap (λ (s : FencedRows). length s.rows) c.set_at.ensures ∙ length-with_weight c.self.inside.rows.rows c.args.place c.args.weight in
    λ p le. c.self.invariant p (omega (arith, same, le))

pub returns : goal.returns
returns c =
    let same = ap (λ (s : FencedRows). keyed s.rows (heads_placed c.self.inside.heads.entries)) c.set_at.ensures ∙ keyed_weight c.self.inside.rows.rows (heads_placed c.self.inside.heads.entries) c.args.place c.args.weight in
    rw (← c.self.view_is) (λ i. record { fenced = c.set_at.ensures i; heads = record { entries = same i; spare = c.self.inside.heads.spare } })
