use Rattle.std.proofs.Common.{◌∙◌, sym}
use Rattle.row_table.proofs.TableLemmas.{none_placed, all_settled, settled_range}
use Rattle.row_table.proofs.rows.RowTable.are_settled.Goals as goal

pub returns-then-is_empty : goal.returns-then-is_empty
returns-then-is_empty c = rw (← c.self.view_is) (λ _ q _. all_settled c.self.inside.rows.rows _ (none_placed c.self.inside.heads.entries (sym c.is_empty.ensures ∙ c.if-is_empty.true)) q)

pub returns : goal.returns
returns c =
    let low = rw (← c.self.view_is) at c.first_place.ensures in
    let high = rw (← c.self.view_is) at c.first_place-2.ensures in
    rw (← c.self.view_is) (λ e. settled_range c.self.inside.rows.rows _ c.args.from c.args.until c.first_place.result c.first_place-2.result low high (c.are_settled.ensures e))
