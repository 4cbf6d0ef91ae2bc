use Rattle.std.proofs.Common.{◌≡◌, ◌++◌, ◌∙◌, ap, arith, length, length-append, subst, sym}
use Rattle.graph_model.specs.AccountSteps.{view_of}
use Rattle.graph_model.specs.Rows.{all_rows, AreRowsOf}
use Rattle.graph_image.specs.Building.{AreStorable}
use Rattle.graph_image.proofs.GivenLemmas.{rows_ended}
use Rattle.sessions.proofs.PropLemmas.{has_open}
use Rattle.sessions.proofs.ScanLemmas.{IsScanning, built, less_left, next_storable, reads_twice, scans_first, scans_on, seen_now}
use Rattle.sessions.proofs.transaction.Transaction.image.Goals as goal

pub turns-smaller : goal.turns-smaller
turns-smaller g c =
    let account = g.E.Engine.account in
    let first = c.args.self.now in
    let is = has_open g.P.SessionPlace.number first.begun.start (account first.engine) first.is in
    less_left (view_of (account first.engine) first.begun.start) c.turns.cursor c.scan.new.cursor c.scan.new.rows
    (scans_first g.P.SessionPlace.number first.begun c.turns.self.begun (account first.engine) (account c.turns.self.engine) is
    c.turns.invariant.reads c.turns.invariant.begun c.turns.cursor c.scan.new.cursor c.scan.new.rows c.scan.ensures.answer)
    c.turns-test.true

pub push-requires : goal.push-requires
push-requires g c =
    let account = g.E.Engine.account in
    let first = c.args.self.now in
    let is = has_open g.P.SessionPlace.number first.begun.start (account first.engine) first.is in
    let view = view_of (account first.engine) first.begun.start in
    let given = c.scan.new.rows in
    let added = c.saturating_add-count.ensures in
    let counted = c.turns.invariant.counted in
    let portion = c.len.ensures.len in
    let few = c.if-count-from.false in
    let most = c.from.ensures in
    let count = length-append c.turns.builder given in
    subst (λ more. AreStorable (c.turns.builder ++ more)) (sym c.as_slice.ensures)
    (next_storable view c.turns.builder given c.turns.cursor c.scan.new.cursor
    (seen_now g.P.SessionPlace.number first.begun.start (account first.engine) is) c.turns-test.true c.turns.invariant.scanning
    (scans_first g.P.SessionPlace.number first.begun c.turns.self.begun (account first.engine) (account c.turns.self.engine) is
    c.turns.invariant.reads c.turns.invariant.begun c.turns.cursor c.scan.new.cursor given c.scan.ensures.answer)
    (omega (arith, added, counted, portion, few, most, count)))

pub turns-preserved : goal.turns-preserved
turns-preserved g c =
    let account = g.E.Engine.account in
    let first = c.args.self.now in
    let is = has_open g.P.SessionPlace.number first.begun.start (account first.engine) first.is in
    let view = view_of (account first.engine) first.begun.start in
    let given = c.scan.new.rows in
    let inv = c.turns.invariant in
    let pushed : c.push.new.self ≡ c.turns.builder ++ given =
    c.in_ok-push.ensures.ok ∙ ap (λ more. c.turns.builder ++ more) c.as_slice.ensures in
    let added = c.saturating_add-count.ensures in
    let counted = inv.counted in
    let portion = c.len.ensures.len in
    let few = c.if-count-from.false in
    let most = c.from.ensures in
    let count = ap length pushed ∙ length-append c.turns.builder given in
    record {
      reads = reads_twice (account first.engine) (account c.turns.self.engine) (account c.scan.new.self.engine) inv.reads
          c.scan.ensures.reads;
      begun = c.scan.ensures.begun ∙ inv.begun;
      scanning = subst (λ rows. IsScanning view (all_rows view) rows c.scan.new.cursor) (sym pushed)
          (scans_on view (all_rows view) c.turns.builder given c.turns.cursor c.scan.new.cursor c.turns-test.true
          inv.scanning (scans_first g.P.SessionPlace.number first.begun c.turns.self.begun (account first.engine)
          (account c.turns.self.engine) is inv.reads inv.begun c.turns.cursor c.scan.new.cursor given
          c.scan.ensures.answer));
      counted = omega (arith, added, counted, portion, few, most, count);
    }

pub finish-requires : goal.finish-requires
finish-requires g c =
    let account = g.E.Engine.account in
    let first = c.args.self.now in
    let is = has_open g.P.SessionPlace.number first.begun.start (account first.engine) first.is in
    let view = view_of (account first.engine) first.begun.start in
    rows_ended c.turns.builder view (subst (λ rows. AreRowsOf rows view)
    (sym (c.turns.invariant.scanning.all c.turns-test.false)) (seen_now g.P.SessionPlace.number first.begun.start (account first.engine) is).rows)

pub returns-clause-answer : goal.returns-clause-answer
returns-clause-answer g c =
    let account = g.E.Engine.account in
    let first = c.args.self.now in
    let is = has_open g.P.SessionPlace.number first.begun.start (account first.engine) first.is in
    let view = view_of (account first.engine) first.begun.start in
    built c.finish.result view (subst (λ rows. AreRowsOf rows view)
    (sym (c.turns.invariant.scanning.all c.turns-test.false))
    (seen_now g.P.SessionPlace.number first.begun.start (account first.engine) is).rows) c.finish.ensures
