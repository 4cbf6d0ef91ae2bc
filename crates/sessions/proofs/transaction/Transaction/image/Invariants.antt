use Rattle.std.proofs.Common.{◌≡◌, length}
use Rattle.graph_model.specs.AccountSteps.{ReadsBy, view_of}
use Rattle.graph_model.specs.Rows.{all_rows}
use Rattle.sessions.proofs.ScanLemmas.{IsScanning, left_of}
use Rattle.sessions.proofs.transaction.Transaction.image.Given as goal

abbrev pub invariant-turns : goal.invariant-turns
invariant-turns g l =
    let view = view_of (g.E.Engine.account l.fn.self.engine) l.fn.self.begun.start in
    record {
      reads : ReadsBy (g.E.Engine.account l.fn.self.engine) (g.E.Engine.account l.self.engine);
      begun : l.self.begun ≡ l.fn.self.begun;
      scanning : IsScanning view (all_rows view) l.builder l.cursor;
      counted : l.count ≡ length l.builder;
    }

abbrev pub decreases-turns : goal.decreases-turns
decreases-turns g l = left_of (view_of (g.E.Engine.account l.fn.self.engine) l.fn.self.begun.start) l.cursor
