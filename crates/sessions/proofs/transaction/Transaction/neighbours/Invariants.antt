use Rattle.std.proofs.Common.{◌≡◌, ◌+◌, List, map}
use Rattle.graph_model.specs.declared.row.Row.{Row}
use Rattle.graph_model.specs.AccountSteps.{ReadsBy, view_of}
use Rattle.graph_model.specs.Rows.{rows}
use Rattle.sessions.specs.Scanned.{neighbour_of}
use Rattle.sessions.proofs.ScanLemmas.{IsScanning, left_of}
use Rattle.sessions.proofs.transaction.Transaction.neighbours.Given as goal

abbrev pub invariant-turns : goal.invariant-turns
invariant-turns g l =
    let view = view_of (g.E.Engine.account l.fn.self.engine) l.fn.self.begun.start in
    record {
      reads : ReadsBy (g.E.Engine.account l.fn.self.engine) (g.E.Engine.account l.self.engine);
      begun : l.self.begun ≡ l.fn.self.begun;
      given : (given : List Row) × (l.list ≡ map neighbour_of given)
          × IsScanning view (rows view (record { src = l.v; second = 1 }) (record { src = l.v + 1; second = 0 })) given l.cursor;
    }

abbrev pub decreases-turns : goal.decreases-turns
decreases-turns g l = left_of (view_of (g.E.Engine.account l.fn.self.engine) l.fn.self.begun.start) l.cursor
