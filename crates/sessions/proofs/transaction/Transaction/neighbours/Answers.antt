use Rattle.std.proofs.Common.{◌+◌, ◌++◌, ◌∙◌, ap, map, sym}
use Rattle.std.proofs.lemmas.List.{map-append}
use Rattle.graph_model.specs.AccountSteps.{view_of}
use Rattle.graph_model.specs.Rows.{rows}
use Rattle.sessions.specs.Scanned.{neighbour_of}
use Rattle.sessions.proofs.PropLemmas.{has_open}
use Rattle.sessions.proofs.ScanLemmas.{less_left, reads_twice, scans_first, scans_on}
use Rattle.sessions.proofs.transaction.Transaction.neighbours.Goals as goal

pub turns-smaller : goal.turns-smaller
turns-smaller g c =
    let account = g.E.Engine.account in
    let first = c.args.self.now in
    let is = has_open g.P.SessionPlace.number first.begun.start (account first.engine) first.is in
    less_left (view_of (account first.engine) first.begun.start) c.turns.cursor c.scan.new.cursor c.scan.new.rows
    (scans_first g.P.SessionPlace.number first.begun c.turns.self.begun (account first.engine) (account c.turns.self.engine) is
    c.turns.invariant.reads c.turns.invariant.begun c.turns.cursor c.scan.new.cursor c.scan.new.rows c.scan.ensures.answer)
    c.turns-test.true

pub turns-preserved : goal.turns-preserved
turns-preserved g c =
    let account = g.E.Engine.account in
    let first = c.args.self.now in
    let is = has_open g.P.SessionPlace.number first.begun.start (account first.engine) first.is in
    let view = view_of (account first.engine) first.begun.start in
    let more = c.scan.new.rows in
    let inv = c.turns.invariant in
    let given = inv.given.0 in
    record {
      reads = reads_twice (account first.engine) (account c.turns.self.engine) (account c.scan.new.self.engine) inv.reads
          c.scan.ensures.reads;
      begun = c.scan.ensures.begun ∙ inv.begun;
      given = (
        given ++ more,
        c.in_ok-push_all.ensures ∙ ap (λ rows. c.turns.list ++ map neighbour_of rows) c.as_slice.ensures
            ∙ ap (λ ids. ids ++ map neighbour_of more) inv.given.1 ∙ sym (map-append neighbour_of given more),
        scans_on view (rows view (record { src = c.args.v; second = 1 }) (record { src = c.args.v + 1; second = 0 })) given
            more c.turns.cursor c.scan.new.cursor c.turns-test.true inv.given.2
            (scans_first g.P.SessionPlace.number first.begun c.turns.self.begun (account first.engine) (account c.turns.self.engine) is
            inv.reads inv.begun c.turns.cursor c.scan.new.cursor more c.scan.ensures.answer),
      );
    }
