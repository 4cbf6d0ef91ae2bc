-- Worked by hand: two scripts side by side that set the weight of one edge.
use Rattle.std.specs.Prelude.{ℕ, zero, suc, false, List, [], ◌∷◌, length, Some, None}
use Rattle.graph_model.specs.declared.write.Kind.TheVariants.{Undirected}
use Rattle.graph_model.specs.declared.write.Write.{Write}
use Rattle.graph_model.specs.declared.write.Write.TheVariants as writes
use Rattle.graph_model.specs.declared.journal.Commit.{Commit}
use Rattle.graph_model.specs.declared.refusal.Cause.TheVariants.{Holder}
use Rattle.graph_model.specs.Account.{Account, Sighting}
use Rattle.run_model.specs.declared.answer.Answer.TheVariants as answers
use Rattle.run_model.specs.Run.{txn_name, load_commit}
use Rattle.run_model.specs.Examples.{load, sets, nine}
use Rattle.side_runs.specs.SideBySide.{HaveRunBy}

-- a pass with no transaction open
abbrev pub pass_with : ℕ → List Commit → List (List Write) → List Sighting → List ℕ → Account
pass_with job seen made sighted stamps = record {
  job = job;
  kind = Undirected;
  leaves = 1;
  seen = seen;
  made = made;
  sighted = sighted;
  start = None;
  own = [];
  filled = false;
  begun = length made;
  allowed = 1;
  stamps = stamps;
}

-- the load's, the first script's, and that of the second, which met the first before it committed
abbrev pub passes_left : ℕ → Account
passes_left zero = pass_with 0 (load_commit load ∷ []) (load ∷ []) [] (1 ∷ [])
passes_left (suc zero) =
    pass_with 1 (load_commit load ∷ nine 2 ∷ []) ((writes.SetEdge 1 2 9 ∷ []) ∷ []) [] (2 ∷ [])
passes_left (suc (suc zero)) =
    pass_with 2 (load_commit load ∷ []) ([] ∷ [])
    (record { by = txn_name 1 1; write = writes.SetEdge 1 2 8; start = 1 } ∷ []) []
passes_left (suc (suc (suc p))) = pass_with (suc (suc (suc p))) [] [] [] []

-- the journal has both commits, though the second pass has seen the load alone
abbrev pub SideExample : Type 0
SideExample =
    HaveRunBy (record { kind = Undirected; load = load; scripts = sets 9 ∷ sets 8 ∷ [] }) 1 passes_left
    (record {
      journal = load_commit load ∷ nine 2 ∷ [];
      reports =
          (answers.Begun (txn_name 1 1) 1 ∷ answers.Done ∷ answers.Committed (Some 2) ∷ [])
          ∷ (answers.Begun (txn_name 2 1) 1 ∷ answers.Conflict (Holder (txn_name 1 1)) ∷ answers.Skipped ∷ [])
          ∷ [];
      files = [] ∷ [] ∷ [];
    })
