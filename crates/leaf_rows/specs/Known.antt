-- What a manager tells of the writers of records.
use Rattle.std.specs.Prelude.{ℕ, ◌==◌, Bool, true, false, max, List, [], ◌∷◌, length}
use Rattle.graph_model.specs.declared.journal.Commit.{Commit}
use Rattle.graph_model.specs.declared.state.State.{State}
use Rattle.graph_model.specs.declared.state.State.TheVariants.{Live, Committed, Aborted}
use Rattle.graph_model.specs.Transactions.{stamp_in}
use Rattle.txn_manager.specs.Manager.{Manager, state_of}
use Rattle.undo_chain.specs.States.{Knowledge}

-- no commit of the journal has a greater stamp
abbrev pub greatest_stamp : List Commit → ℕ
greatest_stamp [] = 0
greatest_stamp (c ∷ cs) = max c.stamp (greatest_stamp cs)

abbrev pub same_state : State → State → Bool
same_state Live Live = true
same_state Live (Committed d) = false
same_state Live Aborted = false
same_state (Committed c) Live = false
same_state (Committed c) (Committed d) = c == d
same_state (Committed c) Aborted = false
same_state Aborted Live = false
same_state Aborted (Committed d) = false
same_state Aborted Aborted = true

-- all stamps of its journal are known, and it may be asked for any transaction
abbrev pub knowledge_of : Manager → Knowledge
knowledge_of m = record {
  known = max (length m.journal) (greatest_stamp m.journal);
  stamps = stamp_in m.journal;
  names = λ by. true;
  vouched = λ by state. same_state (state_of m by) state;
}
