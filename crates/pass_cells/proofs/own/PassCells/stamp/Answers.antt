use Rattle.std.proofs.Common.{◌∙◌, List, ℕ, ap, arith, sym, subst}
use Rattle.row_writes.specs.VersionSegment.Rows.{VersionedRows, versions_at}
use Rattle.store_rule.specs.CellsModel.Cells.{CellState}
use Rattle.store_rule.specs.RuleModel.Places.{lines}
use Rattle.store_rule.specs.RuleModel.Sight.{with_rows}
use Rattle.store_rule.specs.Passes.{OnlyAccount}
use Rattle.pass_cells.specs.Holding.{Holds}
use Rattle.pass_cells.proofs.AfterLemmas.{cell_counted, holds_after}
use Rattle.store_rule.specs.StoreRelation.Steps.{with_unstamped}
use Rattle.store_rule.proofs.RuleModel.RowStepLemmas.{rows_are_stamped}
use Rattle.pass_cells.specs.Changes.{AreStamped, StampsRows, keys_beside, news_of, pass_of}
use Rattle.pass_cells.proofs.ChangeLemmas.{can_stamp, none_come}
use Rattle.pass_cells.proofs.DoneLemmas.{news_counted, stamps_small}
use Rattle.pass_cells.proofs.own.PassCells.stamp.Goals as goal

pub change-requires-clause-may : goal.change-requires-clause-may
change-requires-clause-may c =
    let old = c.args.pass.now in
    let z = c.args.store.now.accounts.config in
    let v = old.account.me.0 in
    let ts = c.args.self.now.taken.list.items in
    let holds = c.requires.holds in
    let us = c.stamp_rows.new.taken.list.items in
    let stamps = subst (λ n. StampsRows n c.args.number c.args.keys.now ts us) c.requires.name
    c.stamp_rows.ensures.stamped in
    let count = c.stamp_rows.ensures.count in
    let none = none_come z v ts holds.taken.known in
    λ heap. rows_are_stamped z
    (lines z.passes) heap old.account.table_id.slots old.account.id old.account.me old.number
    (pass_of v old.number) (keys_beside c.args.keys.now (pass_of v old.number).unstamped)
    c.requires.may.place c.requires.may.commit (news_of v us)
    (can_stamp z v old.number ts us holds.taken.known c.stamp_rows.ensures.keeps.each holds.taken.apart holds.rising
    c.args.number c.args.keys.now c.requires.may c.requires.held stamps (omega (arith, count, none)))

pub returns-clause-holds : goal.returns-clause-holds
returns-clause-holds c =
    let old = c.args.pass.now in
    let z = c.args.store.now.accounts.config in
    let v = old.account.me.0 in
    let ts = c.args.self.now.taken.list.items in
    let holds = c.requires.holds in
    let us = c.stamp_rows.new.taken.list.items in
    let stamps = subst (λ n. StampsRows n c.args.number c.args.keys.now ts us) c.requires.name
    c.stamp_rows.ensures.stamped in
    let kept = c.stamp_rows.ensures.keeps.each in
    subst (Holds c.args.store.now c.change.new.pass) (sym c.count_rows.ensures.counted)
    (holds_after c.args.store.now old c.change.new.pass ts us holds kept
    (stamps_small z v ts us holds.taken.known kept holds.rising _ c.args.number c.args.keys.now stamps) old.number
    (with_unstamped (pass_of v old.number) (keys_beside c.args.keys.now (pass_of v old.number).unstamped))
    c.change.ensures.changed)

pub returns-clause-stamped : goal.returns-clause-stamped
returns-clause-stamped c =
    let old = c.args.pass.now in
    let z = c.args.store.now.accounts.config in
    let v = old.account.me.0 in
    let ts = c.args.self.now.taken.list.items in
    let holds = c.requires.holds in
    let us = c.stamp_rows.new.taken.list.items in
    let stamps = subst (λ n. StampsRows n c.args.number c.args.keys.now ts us) c.requires.name
    c.stamp_rows.ensures.stamped in
    subst (AreStamped c.args.number c.args.keys.now old c.change.new.pass ts) (sym c.count_rows.ensures.counted)
    (record {
      rows = λ q. ap (λ (s : VersionedRows). versions_at s q) (cell_counted us q) ∙ stamps q;
      known = subst (λ (n : List (ℕ × CellState)). OnlyAccount old c.change.new.pass
          (with_rows v old.number (with_unstamped (pass_of v old.number)
          (keys_beside c.args.keys.now (pass_of v old.number).unstamped)) n))
          (sym (news_counted v us)) c.change.ensures.changed;
    })
