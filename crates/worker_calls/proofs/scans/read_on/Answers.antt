use Rattle.std.proofs.Common.{◌≡◌, refl, sym, ◌∙◌, subst}
use Rattle.std.specs.Prelude.{true, false}
use Rattle.edge_scan.specs.Steps.{IsUnderWay}
use Rattle.reader_parts.specs.SharedStore.Passes.{view_in}
use Rattle.worker_calls.proofs.ScanLemmas.{chained_there, rows_there, run_taken, same_view}
use Rattle.worker_calls.proofs.scans.read_on.Goals as goal

pub returns-in-Rows-clause-on : goal.returns-in-Rows-clause-on
returns-in-Rows-clause-on g c = λ yes first under_way.
    let graph = view_in c.args.store.now c.args.pass.now in
    let cursor = c.args.cursor.now in
    run_taken graph first cursor c.go_to.new.cursor c.args.rows.now c.try_likely.new.rows c.in-Rows.end
    c.go_to.ensures.next c.go_to.ensures.until c.go_to.ensures.ended
    (rows_there c.try_likely.result c.in-Rows.end graph cursor.next cursor.until c.args.rows.now c.try_likely.new.rows
    c.try_likely.ensures.run c.in-Rows.is) under_way

pub read_chained-requires-clause-ends : goal.read_chained-requires-clause-ends
read_chained-requires-clause-ends g c =
    (chained_there c.try_likely.result c.in-Chained.key c.in-Chained.end
    (view_in c.args.store.now c.args.pass.now) c.args.cursor.now.next c.args.cursor.now.until c.args.rows.now
    c.try_likely.new.rows c.try_likely.ensures.run c.in-Chained.is).1

pub returns-in-Chained-clause-on : goal.returns-in-Chained-clause-on
returns-in-Chained-clause-on g c = λ yes first under_way.
    let graph = view_in c.args.store.now c.args.pass.now in
    let cursor = c.args.cursor.now in
    let same = same_view c.args.store.now c.args.pass.now c.try_likely.new.pass c.try_likely.ensures.kept in
    let at = record cursor { next = c.in-Chained.key } in
    let read = chained_there c.try_likely.result c.in-Chained.key c.in-Chained.end graph cursor.next cursor.until
    c.args.rows.now c.try_likely.new.rows c.try_likely.ensures.run c.in-Chained.is in
    let there = run_taken graph first cursor at c.args.rows.now c.try_likely.new.rows c.in-Chained.key refl refl
    (λ done. let off : true ≡ false = sym done ∙ c.requires.going in cc) read.0 under_way in
    subst (λ g. IsUnderWay g first c.read_chained.new.cursor c.read_chained.new.rows) same
    (c.read_chained.ensures.on yes first
    (subst (λ g. IsUnderWay g first at c.try_likely.new.rows) (sym same) there))
