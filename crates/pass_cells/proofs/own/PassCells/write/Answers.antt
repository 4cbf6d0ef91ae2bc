use Rattle.std.proofs.Common.{◌∙◌, List, ℕ, ap, arith, sym, subst}
use Rattle.graph_model.specs.declared.journal.TxnName.{TxnName}
use Rattle.row_writes.specs.VersionSegment.Rows.{VersionedRows, versions_at}
use Rattle.row_writes.specs.Held.{AreHeld}
use Rattle.row_writes.specs.Laying.{Lays}
use Rattle.row_writes.specs.Written.{all_keys}
use Rattle.row_writes.specs.declared.written.WrittenRows.{WrittenRows}
use Rattle.store_rule.specs.StoreRelation.Steps.{written_by}
use Rattle.store_rule.specs.CellsModel.Cells.{CellState}
use Rattle.store_rule.specs.RuleModel.Places.{lines}
use Rattle.store_rule.specs.RuleModel.Sight.{with_rows}
use Rattle.store_rule.proofs.RuleModel.RowStepLemmas.{write_is_made}
use Rattle.store_rule.specs.Passes.{OnlyAccount}
use Rattle.pass_cells.specs.Changes.{IsWritten, news_of, pass_of}
use Rattle.pass_cells.specs.Holding.{Holds}
use Rattle.pass_cells.specs.Taken.{held_rows}
use Rattle.pass_cells.proofs.AfterLemmas.{cell_counted, holds_after}
use Rattle.pass_cells.proofs.ChangeLemmas.{can_write, none_come, stamped_is}
use Rattle.pass_cells.proofs.DoneLemmas.{news_counted, write_small}
use Rattle.pass_cells.proofs.ReserveLemmas.{holds_still}
use Rattle.pass_cells.proofs.own.PassCells.write.Goals as goal

pub returns-in_err-lay-clause-holds : goal.returns-in_err-lay-clause-holds
returns-in_err-lay-clause-holds c =
    holds_still c.args.store.now c.args.pass.now c.args.self.now.taken.list.items c.lay.new.cells.list.items
    c.requires.holds c.lay.ensures.keeps.each c.in_err-lay.ensures.err.versions

pub change-requires-clause-may : goal.change-requires-clause-may
change-requires-clause-may c =
    let old = c.args.pass.now in
    let z = c.args.store.now.accounts.config in
    let v = old.account.me.0 in
    let ts = c.args.self.now.taken.list.items in
    let holds = c.requires.holds in
    let us = c.lay.new.cells.list.items in
    let lays = subst (λ (x : TxnName × WrittenRows). Lays x.0 x.1 (held_rows ts) (held_rows us))
    (λ i. (c.requires.name i, c.requires.rows.0 i)) c.in_ok-lay.ensures.ok in
    let held = subst (λ (r : WrittenRows). AreHeld (held_rows ts) (all_keys r)) c.requires.rows.0 c.requires.held in
    let weight = lays.weight in
    let none = none_come z v ts holds.taken.known in
    let few = c.requires.few in
    λ heap. write_is_made z (lines z.passes) heap old.account.table_id.slots old.account.id old.account.me old.number
    (pass_of v old.number) c.args.write (news_of v us)
    (can_write z v old.number ts us holds.taken.known c.lay.ensures.keeps.each holds.taken.apart holds.rising
    c.args.write c.requires.may held lays.versions (omega (arith, weight, none, few)))

pub returns-clause-holds : goal.returns-clause-holds
returns-clause-holds c =
    let old = c.args.pass.now in
    let z = c.args.store.now.accounts.config in
    let v = old.account.me.0 in
    let ts = c.args.self.now.taken.list.items in
    let holds = c.requires.holds in
    let us = c.lay.new.cells.list.items in
    let lays = subst (λ (x : TxnName × WrittenRows). Lays x.0 x.1 (held_rows ts) (held_rows us))
    (λ i. (c.requires.name i, c.requires.rows.0 i)) c.in_ok-lay.ensures.ok in
    let kept = c.lay.ensures.keeps.each in
    subst (Holds c.args.store.now c.change.new.pass) (sym c.count_rows.ensures.counted)
    (holds_after c.args.store.now old c.change.new.pass ts us holds kept
    (write_small z v ts us holds.taken.known kept holds.rising z.kind _ c.args.write c.requires.may.within
    lays.versions) old.number (written_by (pass_of v old.number) c.args.write) c.change.ensures.changed)

pub returns-clause-ok : goal.returns-clause-ok
returns-clause-ok c =
    let old = c.args.pass.now in
    let z = c.args.store.now.accounts.config in
    let v = old.account.me.0 in
    let ts = c.args.self.now.taken.list.items in
    let holds = c.requires.holds in
    let us = c.lay.new.cells.list.items in
    let lays = subst (λ (x : TxnName × WrittenRows). Lays x.0 x.1 (held_rows ts) (held_rows us))
    (λ i. (c.requires.name i, c.requires.rows.0 i)) c.in_ok-lay.ensures.ok in
    subst (IsWritten z c.args.write old c.change.new.pass ts) (sym c.count_rows.ensures.counted) (record {
      rows = λ q. ap (λ (s : VersionedRows). versions_at s q) (cell_counted us q) ∙ lays.versions q
          ∙ stamped_is z.kind q c.args.write _ ((held_rows ts).versions q);
      known = subst (λ (n : List (ℕ × CellState)). OnlyAccount old c.change.new.pass
          (with_rows v old.number (written_by (pass_of v old.number) c.args.write) n))
          (sym (news_counted v us)) c.change.ensures.changed;
    })
