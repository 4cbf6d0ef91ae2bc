use Rattle.std.proofs.Common.{◌≡◌, ◌+◌, refl, ap, length, arith}
use Rattle.std.specs.Prelude.{remove}
use Rattle.gap_segment.specs.Fenced.{FencedRows}
use Rattle.head_map.specs.Heads.{settled_heads}
use Rattle.row_table.proofs.TableLemmas.{table_remove, found_below, behind_remove, length-remove}
use Rattle.row_table.proofs.rows.RowTable.remove.Goals as goal

pub invariant_of-self : goal.invariant_of-self
invariant_of-self c =
    let at = rw (← c.self.view_is) at c.requires.at in
    let below = found_below _ c.self.inside.rows.rows c.args.place at in
    let left : length c.remove_at.new.self.rows ≡ length (remove c.self.inside.rows.rows c.args.place) = ap (λ (s : FencedRows). length s.rows) c.remove_at.ensures.removed in
    let one : length c.self.inside.rows.rows ≡ length c.remove_at.new.self.rows + 1 = omega (arith, left, length-remove c.self.inside.rows.rows c.args.place below) in
    behind_remove _ _ _ c.args.place c.self.invariant _ one below c.close.ensures.heads

pub returns-clause-heads : goal.returns-clause-heads
returns-clause-heads c =
    let at = rw (← c.self.view_is) at c.requires.at in
    rw (c.remove_at.ensures.removed, ← c.self.view_is) (table_remove c.self.inside.rows.rows _ _ c.args.key c.args.place settled_heads refl c.is_fenced.ensures.fenced.sorted at c.close.ensures.heads)
