use Rattle.std.proofs.Common.{◌≡◌, ◌+◌, ◌∙◌, refl, ap, cond, length, nat_eq, ℕ, arith}
use Rattle.std.specs.Prelude.{insert}
use Rattle.gap_segment.specs.Fenced.{FencedRows}
use Rattle.head_map.specs.Heads.{heads_placed, opened}
use Rattle.row_table.proofs.TableLemmas.{table_insert, behind_insert, length-insert}
use Rattle.row_table.proofs.rows.RowTable.insert.Goals as goal

pub invariant_of-self : goal.invariant_of-self
invariant_of-self c =
    let gap = rw (← c.self.view_is) at c.requires.gap in
    let law : (p : ℕ) → heads_placed c.put.new.self.entries p ≡ cond (nat_eq p c.args.place) c.args.heads (opened c.args.place (heads_placed c.self.inside.heads.entries) p) = λ p. c.put.ensures.heads p ∙ ap (cond (nat_eq p c.args.place) c.args.heads) (c.open.ensures.heads p) in
    let grown : length c.insert_at.new.self.rows ≡ length (insert c.self.inside.rows.rows c.args.place c.args.row) = ap (λ (s : FencedRows). length s.rows) c.insert_at.ensures in
    let one : length c.insert_at.new.self.rows ≡ length c.self.inside.rows.rows + 1 = omega (arith, grown, length-insert c.self.inside.rows.rows c.args.place c.args.row gap.within) in
    behind_insert _ _ _ c.args.place c.self.invariant c.args.heads _ one gap.within law

pub returns-clause-heads : goal.returns-clause-heads
returns-clause-heads c =
    let gap = rw (← c.self.view_is) at c.requires.gap in
    let law : (p : ℕ) → heads_placed c.put.new.self.entries p ≡ cond (nat_eq p c.args.place) c.args.heads (opened c.args.place (heads_placed c.self.inside.heads.entries) p) = λ p. c.put.ensures.heads p ∙ ap (cond (nat_eq p c.args.place) c.args.heads) (c.open.ensures.heads p) in
    rw (c.insert_at.ensures, ← c.self.view_is) (table_insert c.self.inside.rows.rows _ _ c.args.row.key c.args.place c.args.heads c.args.row refl gap law)
