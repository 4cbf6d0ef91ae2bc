use Rattle.std.proofs.Common.{◌≡◌, List, None, sym, ◌∙◌, ap}
use Rattle.std.specs.Prelude.{true, false, is_some}
use Rattle.graph_model.specs.declared.row.Row.{Row}
use Rattle.head_map.specs.Heads.{heads_at}
use Rattle.row_table.specs.Parts.{is_changed}
use Rattle.row_table.proofs.TableLemmas.{kept_value}
use Rattle.row_table.proofs.found.set_lists.Goals.{then-is_some, else-is_some}
use Rattle.row_table.proofs.found.set_lists.Goals as goal

pub returns-then-is_changed-clause-rows : goal.returns-then-is_changed-clause-rows
returns-then-is_changed-clause-rows c =
    let changed : c.args.row.value ≡ None → is_changed c.args.row ≡ true = λ none. elim c.if-is_some.branch as (λ _. is_changed c.args.row ≡ true) [
      | then-is_some w ↦ let some : false ≡ true = ap is_some (sym none) ∙ sym c.is_some.ensures ∙ w.if-is_some.true in cc
      | else-is_some w ↦ sym w.is_changed.ensures ∙ sym w.value-is ∙ c.if-is_changed.true
    ] in
    c.put.ensures.rows
    ∙ ap (λ (rs : List Row). record c.args.rows.now.fenced { rows = rs })
    (sym (kept_value c.args.rows.now.fenced.rows c.args.key (heads_at c.args.rows.now.heads.entries c.args.key) c.args.row.place c.args.row.value (is_changed c.args.row) c.requires.value changed))
