-- Worked examples of journals, and of what transactions see and meet.
use Rattle.std.specs.Prelude.{◌≡◌, ℕ, true, false, List, [], ◌∷◌, ◌++◌, Some, None, Option, Result, Ok, Err}
use Rattle.graph_model.specs.declared.write.Kind.TheVariants.{Undirected}
use Rattle.graph_model.specs.declared.write.Write.{Write}
use Rattle.graph_model.specs.declared.write.Write.TheVariants.{AddVertex, DropVertex, AddEdge, SetEdge, DropEdge}
use Rattle.graph_model.specs.declared.journal.Begun.{Begun}
use Rattle.graph_model.specs.declared.journal.Commit.{Commit}
use Rattle.graph_model.specs.declared.journal.TxnName.{TxnName}
use Rattle.graph_model.specs.declared.refusal.Cause.{Cause}
use Rattle.graph_model.specs.declared.refusal.Cause.TheVariants.{Later, Holder}
use Rattle.graph_model.specs.declared.refusal.Refusal.{Refusal}
use Rattle.graph_model.specs.declared.refusal.Refusal.TheVariants.{SelfLoop, NoVertex, VertexExists, EdgeExists, NoEdge, HasEdges, Conflict, Full}
use Rattle.graph_model.specs.declared.refusal.BeginRefusal.{BeginRefusal}
use Rattle.graph_model.specs.declared.refusal.BeginRefusal.TheVariants.{TxnsUsed}
use Rattle.graph_model.specs.Graph.{has_vertex, weight_of}
use Rattle.graph_model.specs.History.{view}
use Rattle.graph_model.specs.Legal.{IsLegal}
use Rattle.graph_model.specs.Conflict.{later, OpenTxn, least_job, holder, greatest, newest_later, conflict}
use Rattle.graph_model.specs.Account.{Account, IsValid}
use Rattle.graph_model.specs.AccountSteps.{name_of, begun_at, BeginsBy, with_write, with_cause, WritesBy, ended, CommitsBy}
use Rattle.graph_model.specs.Examples.{load}

-- the transaction of this number of this script
abbrev pub name : ℕ → ℕ → TxnName
name job number = record { job = job; number = number }

-- what it has committed
abbrev pub commit : ℕ → ℕ → TxnName → List Write → Commit
commit stamp start by writes = record { stamp = stamp; start = start; by = by; writes = writes }

-- the load, and then a transaction that sets the weight of one edge
abbrev pub journal : List Commit
journal = commit 1 0 (name 0 1) load ∷ commit 2 1 (name 1 1) (SetEdge 1 2 9 ∷ []) ∷ []

-- the journal, and a third commit
abbrev pub then_commit : ℕ → ℕ → TxnName → List Write → List Commit
then_commit stamp start by writes = journal ++ commit stamp start by writes ∷ []

-- journals that snapshot isolation allows
pub record LegalExamples : Type 0 where
  pub legal : IsLegal Undirected journal
  -- another transaction that began as early, and wrote something else
  pub overlaps_apart : IsLegal Undirected (then_commit 3 1 (name 2 1) (SetEdge 2 3 8 ∷ []))
  -- one that writes the same edge, and began when the other had committed
  pub follows : IsLegal Undirected (then_commit 3 2 (name 2 1) (SetEdge 2 1 8 ∷ []))

-- journals with one part of a legal one broken
pub record IllegalExamples : Type 0 where
  -- it sets an edge that another has set since its start
  pub overlaps : IsLegal Undirected (then_commit 3 1 (name 2 1) (SetEdge 2 1 8 ∷ [])) → ⊥
  pub commits_twice : IsLegal Undirected (then_commit 3 2 (name 1 1) (SetEdge 2 1 8 ∷ [])) → ⊥
  pub writes_nothing : IsLegal Undirected (then_commit 3 2 (name 2 1) []) → ⊥
  pub skips_a_stamp : IsLegal Undirected (then_commit 4 2 (name 2 1) (SetEdge 2 1 8 ∷ [])) → ⊥
  pub starts_at_itself : IsLegal Undirected (then_commit 3 3 (name 2 1) (SetEdge 2 1 8 ∷ [])) → ⊥
  -- vertex 5 is there when it commits, and wasn't when it began
  pub not_on_its_snapshot : IsLegal Undirected
      (commit 1 0 (name 0 1) load ∷ commit 2 1 (name 1 1) (AddVertex 5 ∷ [])
      ∷ commit 3 1 (name 2 1) (AddEdge 4 5 1 ∷ []) ∷ []) → ⊥
  pub refused_by_its_snapshot : IsLegal Undirected (then_commit 3 2 (name 2 1) (SetEdge 2 2 8 ∷ [])) → ⊥
  pub too_great_id : IsLegal Undirected (then_commit 3 2 (name 2 1) (AddVertex 9223372036854775807 ∷ [])) → ⊥
  pub too_heavy : IsLegal Undirected (then_commit 3 2 (name 2 1) (SetEdge 2 1 4294967296 ∷ [])) → ⊥

-- two writes of one edge
abbrev pub own_writes : List Write
own_writes = SetEdge 1 2 7 ∷ SetEdge 2 1 6 ∷ []

-- what transactions see
pub record ViewExamples : Type 0 where
  -- the snapshot at the load has the old weight, whoever committed since
  pub old_weight : weight_of (view Undirected journal 1 []) 1 2 ≡ Some 1
  pub new_weight : weight_of (view Undirected journal 2 []) 2 1 ≡ Some 9
  pub nothing_yet : has_vertex (view Undirected journal 0 []) 1 ≡ false
  -- its own writes are seen on it, both ways
  pub own : weight_of (view Undirected journal 1 (AddEdge 1 4 1 ∷ [])) 4 1 ≡ Some 1
  pub own_dropped : weight_of (view Undirected journal 1 (DropEdge 1 2 ∷ [])) 2 1 ≡ None
  pub own_vertex : has_vertex (view Undirected journal 1 (AddVertex 5 ∷ [])) 5 ≡ true
  pub own_removed : has_vertex (view Undirected journal 2 (DropVertex 4 ∷ [])) 4 ≡ false
  -- the last of its own writes counts
  pub last_of_its_own : weight_of (view Undirected journal 2 own_writes) 1 2 ≡ Some 6

-- an open transaction with one write
abbrev pub open_txn : ℕ → Write → OpenTxn
open_txn job w = record { by = name job 1; writes = w ∷ [] }

-- one that has added an edge at vertex 4
abbrev pub at_four : ℕ → OpenTxn
at_four job = open_txn job (AddEdge 1 4 1)

-- whom a transaction meets that wants to remove vertex 4
abbrev pub who_holds : TxnName → List OpenTxn → Option TxnName
who_holds by txns = holder Undirected txns by (DropVertex 4)

-- the edge was set twice since the load
abbrev pub set_twice : List Commit
set_twice = then_commit 3 2 (name 2 1) (SetEdge 2 1 8 ∷ [])

-- what a transaction of this start meets that wants to set the same edge
abbrev pub met_at : ℕ → List OpenTxn → Option Cause
met_at start txns = conflict Undirected set_twice txns (name 3 1) start (SetEdge 2 1 5)

-- what a refused writer has met
pub record ConflictExamples : Type 0 where
  pub met_later : later Undirected set_twice 1 (SetEdge 2 1 5) ≡ 2 ∷ 3 ∷ []
  pub not_at_its_start : later Undirected set_twice 2 (SetEdge 2 1 5) ≡ 3 ∷ []
  pub not_clashing : later Undirected set_twice 0 (SetEdge 1 3 5) ≡ []
  pub newest : newest_later Undirected set_twice 1 (SetEdge 2 1 5) ≡ Some 3
  pub no_newest : newest_later Undirected set_twice 3 (SetEdge 2 1 5) ≡ None
  pub greatest_first : greatest (9 ∷ 2 ∷ 4 ∷ []) ≡ Some 9
  pub greatest_between : greatest (2 ∷ 9 ∷ 4 ∷ []) ≡ Some 9
  pub greatest_last : greatest (2 ∷ 4 ∷ 9 ∷ []) ≡ Some 9
  -- of two that clash the one with the lesser job, wherever it stands
  pub lesser_job_first : who_holds (name 1 1) (at_four 2 ∷ at_four 3 ∷ []) ≡ Some (name 2 1)
  pub lesser_job_last : who_holds (name 1 1) (at_four 3 ∷ at_four 2 ∷ []) ≡ Some (name 2 1)
  pub least_between : least_job (name 4 1 ∷ name 2 1 ∷ name 3 1 ∷ []) ≡ Some (name 2 1)
  pub not_itself : who_holds (name 1 1) (at_four 1 ∷ []) ≡ None
  pub another_of_its_job : who_holds (name 1 2) (at_four 1 ∷ []) ≡ Some (name 1 1)
  pub no_holder : who_holds (name 1 1) (open_txn 2 (AddEdge 1 3 1) ∷ []) ≡ None
  -- an open transaction is named before a later commit
  pub both : met_at 1 (open_txn 4 (DropEdge 1 2) ∷ []) ≡ Some (Holder (name 4 1))
  pub later_alone : met_at 1 (open_txn 4 (DropEdge 2 3) ∷ []) ≡ Some (Later 3)
  pub neither : met_at 3 (open_txn 4 (DropEdge 2 3) ∷ []) ≡ None

-- a pass whose first transaction wrote nothing, and whose second has added an edge so far
abbrev pub account : Account
account = record {
  job = 2;
  kind = Undirected;
  leaves = 4;
  seen = journal;
  made = [] ∷ (AddEdge 1 4 1 ∷ []) ∷ [];
  sighted = [];
  start = Some 1;
  own = AddEdge 1 4 1 ∷ [];
  filled = false;
  begun = 2;
  allowed = 5;
  stamps = [];
}

-- the same with other writes so far
abbrev pub with_own : List Write → Account
with_own ws = record account { own = ws; made = [] ∷ ws ∷ [] }

-- the account as it is, and with one part wrong
pub record AccountExamples : Type 0 where
  pub valid : IsValid account
  pub ended : IsValid (record account { start = None; own = [] })
  pub own_where_none_is_open : IsValid (record account { start = None }) → ⊥
  pub own_not_made : IsValid (record account { own = [] }) → ⊥
  pub begun_not_made : IsValid (record account { begun = 3 }) → ⊥
  pub more_than_allowed : IsValid (record account { allowed = 1 }) → ⊥
  pub start_not_seen : IsValid (record account { start = Some 3 }) → ⊥
  pub not_on_its_snapshot : IsValid (with_own (AddEdge 1 9 1 ∷ [])) → ⊥
  pub too_heavy : IsValid (with_own (AddEdge 1 4 4294967296 ∷ [])) → ⊥
  pub seen_not_legal : IsValid (record account { seen = then_commit 3 1 (name 2 1) (SetEdge 2 1 8 ∷ []) }) → ⊥

-- what a call makes of the account
pub record StepExamples : Type 0 where
  pub named : name_of account ≡ name 2 2
  pub no_more_open : ended account ≡ record account { start = None; own = [] }
  -- the next transaction has its own list of writes
  pub began : begun_at (ended account) 2 ≡ record account {
    made = [] ∷ (AddEdge 1 4 1 ∷ []) ∷ [] ∷ [];
    start = Some 2;
    own = [];
    begun = 3;
  }
  pub wrote : with_write account (SetEdge 1 2 5) ≡ with_own (AddEdge 1 4 1 ∷ SetEdge 1 2 5 ∷ [])
  -- an open transaction that was met is noted, and a later commit isn't
  pub met_open : with_cause account 1 (SetEdge 1 2 5) (Holder (name 3 1)) ≡ record account {
    sighted = record { by = name 3 1; write = SetEdge 1 2 5; start = 1 } ∷ [];
  }
  pub met_later : with_cause account 1 (SetEdge 1 2 5) (Later 2) ≡ account

-- the pass when its second transaction has ended
abbrev pub idle : Account
idle = ended account

-- what `begin` answers its third transaction
abbrev pub begun : ℕ → Result Begun BeginRefusal
begun start = Ok (record { by = name 2 3; start = start })

-- what `begin` may answer where two commits were seen
pub record BeginExamples : Type 0 where
  pub at_what_is_seen : BeginsBy idle (begun 2) (begun_at idle 2)
  -- a third commit may have been seen on the way
  pub at_more : BeginsBy idle (begun 3) (record (begun_at idle 3) { seen = set_twice })
  pub not_before_what_was_seen : BeginsBy idle (begun 1) (begun_at idle 1) → ⊥
  pub not_behind_what_is_seen : BeginsBy idle (begun 3) (begun_at idle 3) → ⊥
  pub not_by_a_used_number : BeginsBy idle (Ok (record { by = name 2 2; start = 2 })) (begun_at idle 2) → ⊥
  pub not_without_a_number_left : BeginsBy (record idle { allowed = 2 }) (begun 2)
      (begun_at (record idle { allowed = 2 }) 2) → ⊥
  pub all_used : BeginsBy (record idle { allowed = 2 }) (Err TxnsUsed) (record idle { allowed = 2 })
  pub not_all_used : BeginsBy idle (Err TxnsUsed) idle → ⊥

-- the open transaction makes the write
abbrev pub IsMade : Write → Type 0
IsMade w = WritesBy account w (Ok tt) (with_write account w)

-- it is refused, and nothing changes
abbrev pub IsRefused : Write → Refusal → Type 0
IsRefused w refusal = WritesBy account w (Err refusal) account

-- it is answered a conflict, and what it met is noted
abbrev pub HasMet : Write → Cause → Type 0
HasMet w cause = WritesBy account w (Err (Conflict cause)) (with_cause account 1 w cause)

-- it is answered that the store is full, with so many leaves
abbrev pub FindsFull : Write → ℕ → Type 0
FindsFull w leaves = WritesBy account w (Err (Full leaves)) (record account { filled = true })

-- what a write may be answered where the first commit is seen and the second one is later
pub record WriteExamples : Type 0 where
  pub made : IsMade (SetEdge 1 4 5)
  pub loop_not_made : IsMade (SetEdge 2 2 5) → ⊥
  pub loop_refused : IsRefused (SetEdge 2 2 5) SelfLoop
  pub no_loop_not_refused : IsRefused (SetEdge 1 4 5) SelfLoop → ⊥
  -- each other refusal, where it is right and where it isn't
  pub no_vertex : IsRefused (AddEdge 1 9 5) (NoVertex 9)
  pub not_another_vertex : IsRefused (AddEdge 1 9 5) (NoVertex 1) → ⊥
  pub not_a_vertex_for_an_edge : IsRefused (SetEdge 1 4 5) (NoVertex 9) → ⊥
  pub vertex_exists : IsRefused (AddVertex 4) VertexExists
  pub no_vertex_exists : IsRefused (AddVertex 5) VertexExists → ⊥
  pub edge_exists : IsRefused (AddEdge 4 1 5) EdgeExists
  pub no_edge_exists : IsRefused (AddEdge 1 3 5) EdgeExists → ⊥
  pub no_edge : IsRefused (DropEdge 1 3) NoEdge
  pub an_edge_is_there : IsRefused (SetEdge 1 4 5) NoEdge → ⊥
  pub has_edges : IsRefused (DropVertex 1) HasEdges
  pub no_edges_in_the_way : IsRefused (SetEdge 1 4 5) HasEdges → ⊥
  -- a conflict is with a later commit that clashes, or with a transaction of another pass
  pub met_a_commit : HasMet (SetEdge 1 2 5) (Later 2)
  pub met_a_holder : HasMet (SetEdge 1 2 5) (Holder (name 3 1))
  pub not_one_that_it_sees : HasMet (SetEdge 1 2 5) (Later 1) → ⊥
  pub not_one_that_is_apart : HasMet (SetEdge 2 3 5) (Later 2) → ⊥
  pub not_its_own_pass : HasMet (SetEdge 1 2 5) (Holder (name 2 1)) → ⊥
  pub loop_meets_nobody : HasMet (SetEdge 2 2 5) (Holder (name 3 1)) → ⊥
  -- and a full store finds no place for what wants one
  pub full : FindsFull (AddVertex 5) 4
  pub not_full_for_a_weight : FindsFull (SetEdge 1 4 5) 4 → ⊥
  pub not_full_for_what_is_there : FindsFull (AddVertex 4) 4 → ⊥
  pub not_full_with_other_leaves : FindsFull (AddVertex 5) 5 → ⊥

-- the pass when a third commit was seen behind its open transaction
abbrev pub committed : ℕ → TxnName → List Write → Account
committed start by writes = record idle { seen = then_commit 3 start by writes; stamps = 3 ∷ [] }

-- what `commit` may answer the open transaction
pub record CommitExamples : Type 0 where
  pub commits : CommitsBy account (Some 3) (committed 1 (name 2 2) account.own)
  pub not_by_another_pass : CommitsBy account (Some 3) (committed 1 (name 3 1) account.own) → ⊥
  pub not_by_another_number : CommitsBy account (Some 3) (committed 1 (name 2 1) account.own) → ⊥
  pub not_from_another_start : CommitsBy account (Some 3) (committed 2 (name 2 2) account.own) → ⊥
  pub not_of_other_writes : CommitsBy account (Some 3) (committed 1 (name 2 2) (AddEdge 1 3 1 ∷ [])) → ⊥
  pub not_at_another_stamp : CommitsBy account (Some 2) (committed 1 (name 2 2) account.own) → ⊥
  pub not_without_a_stamp : CommitsBy account None (committed 1 (name 2 2) account.own) → ⊥
  pub not_of_no_writes :
      CommitsBy (with_own []) (Some 3) (record (committed 1 (name 2 2) []) { made = [] ∷ [] ∷ [] }) → ⊥
