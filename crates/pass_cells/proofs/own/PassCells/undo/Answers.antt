use Rattle.std.proofs.Common.{◌∙◌, List, ℕ, ap, arith, sym, subst}
use Rattle.graph_model.specs.declared.journal.TxnName.{TxnName}
use Rattle.row_writes.specs.VersionSegment.Rows.{VersionedRows, versions_at}
use Rattle.store_rule.specs.CellsModel.Cells.{CellState}
use Rattle.store_rule.specs.RuleModel.Places.{lines}
use Rattle.store_rule.specs.RuleModel.Sight.{with_rows}
use Rattle.store_rule.specs.Passes.{OnlyAccount}
use Rattle.pass_cells.specs.Holding.{Holds}
use Rattle.pass_cells.specs.Taken.{held_rows}
use Rattle.pass_cells.proofs.AfterLemmas.{cell_counted, holds_after}
use Rattle.row_writes.specs.Laying.{TakesBack}
use Rattle.row_writes.specs.Written.{rows_of}
use Rattle.row_writes.specs.declared.written.WrittenRows.{WrittenRows}
use Rattle.store_rule.specs.StoreRelation.Steps.{taken_back}
use Rattle.txn_manager.specs.declared.config.Config.{Config}
use Rattle.store_rule.proofs.RuleModel.RowStepLemmas.{write_is_undone}
use Rattle.pass_cells.specs.Changes.{IsUndone, but_newest, news_of, pass_of}
use Rattle.pass_cells.proofs.ChangeLemmas.{can_undo, none_come, unstamped_is}
use Rattle.pass_cells.proofs.DoneLemmas.{news_counted, undo_small}
use Rattle.pass_cells.proofs.own.PassCells.undo.Goals as goal

pub change-requires-clause-may : goal.change-requires-clause-may
change-requires-clause-may c =
    let old = c.args.pass.now in
    let z = c.args.store.now.accounts.config in
    let v = old.account.me.0 in
    let ts = c.args.self.now.taken.list.items in
    let holds = c.requires.holds in
    let us = c.undo.new.cells.list.items in
    let rows = c.of.ensures ∙ ap (λ (x : Config). rows_of x.kind c.args.write) c.config.ensures in
    let takes = subst (λ (x : TxnName × WrittenRows). TakesBack x.0 x.1 (held_rows ts) (held_rows us))
    (λ i. (c.requires.name i, rows i)) c.undo.ensures.undone in
    let weight = takes.weight in
    let none = none_come z v ts holds.taken.known in
    λ heap. write_is_undone z
    (lines z.passes) heap old.account.table_id.slots old.account.id old.account.me old.number
    (pass_of v old.number) (but_newest (pass_of v old.number).laid) c.args.write (news_of v us)
    (can_undo z v old.number ts us holds.taken.known c.undo.ensures.keeps.each holds.taken.apart holds.rising
    c.args.write c.requires.may c.requires.held takes.versions (omega (arith, weight, none)))

pub returns-clause-holds : goal.returns-clause-holds
returns-clause-holds c =
    let old = c.args.pass.now in
    let z = c.args.store.now.accounts.config in
    let v = old.account.me.0 in
    let ts = c.args.self.now.taken.list.items in
    let holds = c.requires.holds in
    let us = c.undo.new.cells.list.items in
    let rows = c.of.ensures ∙ ap (λ (x : Config). rows_of x.kind c.args.write) c.config.ensures in
    let takes = subst (λ (x : TxnName × WrittenRows). TakesBack x.0 x.1 (held_rows ts) (held_rows us))
    (λ i. (c.requires.name i, rows i)) c.undo.ensures.undone in
    let kept = c.undo.ensures.keeps.each in
    subst (Holds c.args.store.now c.change.new.pass) (sym c.count_rows.ensures.counted)
    (holds_after c.args.store.now old c.change.new.pass ts us holds kept
    (undo_small z v ts us holds.taken.known kept holds.rising z.kind _ c.args.write takes.versions) old.number
    (taken_back (pass_of v old.number) (but_newest (pass_of v old.number).laid)) c.change.ensures.changed)

pub returns-clause-undone : goal.returns-clause-undone
returns-clause-undone c =
    let old = c.args.pass.now in
    let z = c.args.store.now.accounts.config in
    let v = old.account.me.0 in
    let ts = c.args.self.now.taken.list.items in
    let holds = c.requires.holds in
    let us = c.undo.new.cells.list.items in
    let rows = c.of.ensures ∙ ap (λ (x : Config). rows_of x.kind c.args.write) c.config.ensures in
    let takes = subst (λ (x : TxnName × WrittenRows). TakesBack x.0 x.1 (held_rows ts) (held_rows us))
    (λ i. (c.requires.name i, rows i)) c.undo.ensures.undone in
    subst (IsUndone z c.args.write old c.change.new.pass ts) (sym c.count_rows.ensures.counted) (record {
      rows = λ q. ap (λ (s : VersionedRows). versions_at s q) (cell_counted us q) ∙ takes.versions q
          ∙ unstamped_is z.kind q c.args.write _ ((held_rows ts).versions q);
      known = subst (λ (n : List (ℕ × CellState)). OnlyAccount old c.change.new.pass
          (with_rows v old.number (taken_back (pass_of v old.number) (but_newest (pass_of v old.number).laid)) n))
          (sym (news_counted v us)) c.change.ensures.changed;
    })
