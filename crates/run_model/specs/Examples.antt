-- Worked by hand: runs, outputs that are no run's, runs by turns, and texts.
use Rattle.std.specs.Prelude.{◌≡◌, ℕ, zero, suc, List, [], ◌∷◌, ◌++◌, map, replicate, codes, Some, None}
use Rattle.graph_model.specs.declared.write.Kind.{Kind}
use Rattle.graph_model.specs.declared.write.Kind.TheVariants.{Undirected}
use Rattle.graph_model.specs.declared.write.Write.{Write}
use Rattle.graph_model.specs.declared.write.Write.TheVariants as writes
use Rattle.graph_model.specs.declared.journal.TxnName.{TxnName}
use Rattle.graph_model.specs.declared.journal.Commit.{Commit}
use Rattle.graph_model.specs.declared.refusal.Cause.{Cause}
use Rattle.graph_model.specs.declared.refusal.Cause.TheVariants.{Later, Holder}
use Rattle.graph_model.specs.declared.table.Value.TheVariants.{Number}
use Rattle.run_model.specs.declared.command.Command.{Command}
use Rattle.run_model.specs.declared.command.Command.TheVariants as commands
use Rattle.run_model.specs.declared.command.Query.TheVariants.{WeightOf, NeighboursOf, Counts}
use Rattle.run_model.specs.declared.command.Kernel.TheVariants.{Bfs, Wcc, Cdlp}
use Rattle.run_model.specs.declared.answer.Answer.{Answer}
use Rattle.run_model.specs.declared.answer.Answer.TheVariants as answers
use Rattle.run_model.specs.Inputs.{File}
use Rattle.run_model.specs.Run.{txn_name, load_commit, IsRun}
use Rattle.run_model.specs.Stepped.{turn_at, service_turns, IsStepped}
use Rattle.run_model.specs.Texts.{report_text, journal_text}

-- a run of these scripts on a graph of this kind, with so many leaves, gives this
abbrev pub GivesOn : Kind → ℕ → List Write → List (List Command) → List Commit → List (List Answer)
    → List (List File) → Type 0
GivesOn kind leaves load scripts journal reports files =
    IsRun (record { kind = kind; load = load; scripts = scripts }) leaves
    (record { journal = journal; reports = reports; files = files })

-- a run of these scripts on an undirected graph, with one leaf, gives this
abbrev pub Gives : List Write → List (List Command) → List Commit → List (List Answer) → List (List File)
    → Type 0
Gives load scripts journal reports files = GivesOn Undirected 1 load scripts journal reports files

-- ---- two scripts that set the weight of one edge

-- vertices 1 to 4, and edges from 1 to 2 and from 2 to 3
abbrev pub load : List Write
load =
    writes.AddVertex 1 ∷ writes.AddVertex 2 ∷ writes.AddVertex 3 ∷ writes.AddVertex 4
    ∷ writes.AddEdge 1 2 1 ∷ writes.AddEdge 2 3 1 ∷ []

-- a script that gives the edge from 1 to 2 another weight
abbrev pub sets : ℕ → List Command
sets weight = commands.Begin ∷ commands.Write (writes.SetEdge 1 2 weight) ∷ commands.Commit ∷ []

-- a commit of the weight 9
abbrev pub nine : ℕ → Commit
nine stamp = record { stamp = stamp; start = 1; by = txn_name 1 1; writes = writes.SetEdge 1 2 9 ∷ [] }

-- the first commits, and the second, with this start, meets it
abbrev pub Meets : ℕ → Cause → Type 0
Meets start cause =
    Gives load (sets 9 ∷ sets 8 ∷ []) (load_commit load ∷ nine 2 ∷ [])
    ((answers.Begun (txn_name 1 1) 1 ∷ answers.Done ∷ answers.Committed (Some 2) ∷ [])
    ∷ (answers.Begun (txn_name 2 1) start ∷ answers.Conflict cause ∷ answers.Skipped ∷ []) ∷ [])
    ([] ∷ [] ∷ [])

-- the first sets another edge, and the second, which began as early, names this
abbrev pub MeetsApart : Cause → Type 0
MeetsApart cause =
    Gives load ((commands.Begin ∷ commands.Write (writes.SetEdge 2 3 9) ∷ commands.Commit ∷ []) ∷ sets 8 ∷ [])
    (load_commit load ∷ record (nine 2) { writes = writes.SetEdge 2 3 9 ∷ [] } ∷ [])
    ((answers.Begun (txn_name 1 1) 1 ∷ answers.Done ∷ answers.Committed (Some 2) ∷ [])
    ∷ (answers.Begun (txn_name 2 1) 1 ∷ answers.Conflict cause ∷ answers.Skipped ∷ []) ∷ [])
    ([] ∷ [] ∷ [])

-- what the second may name
pub record ConflictExamples : Type 0 where
  -- the first may still be open, or have committed
  pub with_open : Meets 1 (Holder (txn_name 1 1))
  pub with_later : Meets 1 (Later 2)
  -- the load is not later than the start, and no other transaction wrote
  pub with_load : Meets 1 (Later 1) → ⊥
  pub with_itself : Meets 1 (Holder (txn_name 2 1)) → ⊥
  pub with_nobody : Meets 1 (Holder (txn_name 1 2)) → ⊥
  -- the first had committed at the start
  pub with_earlier : Meets 2 (Holder (txn_name 1 1)) → ⊥
  -- the first made no write that clashes
  pub with_apart : MeetsApart (Holder (txn_name 1 1)) → ⊥
  pub with_later_apart : MeetsApart (Later 2) → ⊥

-- ---- one script on a graph of one vertex

-- vertex 1 alone
abbrev pub one_vertex : List Write
one_vertex = writes.AddVertex 1 ∷ []

-- a transaction that commits nothing is answered this on what was loaded
abbrev pub GetsOn : Kind → List Write → List Command → List Answer → List File → Type 0
GetsOn kind load cs report files =
    GivesOn kind 1 load ((commands.Begin ∷ cs) ∷ []) (load_commit load ∷ [])
    ((answers.Begun (txn_name 1 1) 1 ∷ report) ∷ []) (files ∷ [])

-- and on a graph of one vertex
abbrev pub GetsAnswers : List Command → List Answer → List File → Type 0
GetsAnswers cs report files = GetsOn Undirected one_vertex cs report files

-- lines of each kind
pub record AnswerExamples : Type 0 where
  pub reads : GetsAnswers
      (commands.Read (WeightOf 1 1) ∷ commands.Read (NeighboursOf 1) ∷ commands.Read (NeighboursOf 2) ∷ commands.Read Counts ∷ commands.Commit ∷ [])
      (answers.Nothing ∷ answers.Neighbours [] ∷ answers.NoVertex 2 ∷ answers.Counted 1 0
      ∷ answers.Committed None ∷ []) []
  pub refusals : GetsAnswers
      (commands.Write (writes.AddVertex 1) ∷ commands.Write (writes.AddEdge 1 1 5) ∷ commands.Write (writes.AddEdge 1 2 5) ∷ commands.Commit ∷ [])
      (answers.Exists ∷ answers.SelfLoop ∷ answers.NoVertex 2 ∷ answers.Committed None ∷ []) []
  pub own_writes : GetsAnswers
      (commands.Write (writes.AddVertex 2) ∷ commands.Read Counts ∷ commands.Abort ∷ [])
      (answers.Done ∷ answers.Counted 2 0 ∷ answers.Aborted ∷ []) []
  pub kernel : GetsAnswers
      (commands.Run (Cdlp 0) (codes "f") ∷ commands.Run (Bfs 2) (codes "g") ∷ commands.Commit ∷ [])
      (answers.Table 1 ∷ answers.NoVertex 2 ∷ answers.Committed None ∷ [])
      (record { name = codes "f"; table = record { vertex = 1; value = Number 1 } ∷ [] } ∷ [])

-- where there is no leaf, and so `full` may stand, a write is answered it
abbrev pub FindsNoPlace : Command → Type 0
FindsNoPlace c =
    GivesOn Undirected 0 load ((commands.Begin ∷ c ∷ commands.Abort ∷ []) ∷ []) (load_commit load ∷ [])
    ((answers.Begun (txn_name 1 1) 1 ∷ answers.Full ∷ answers.Skipped ∷ []) ∷ []) ([] ∷ [])

-- one answer is wrong
pub record WrongAnswers : Type 0 where
  pub other_weight : GetsAnswers (commands.Read (WeightOf 1 1) ∷ commands.Abort ∷ [])
      (answers.Weight 5 ∷ answers.Aborted ∷ []) [] → ⊥
  pub made_what_exists : GetsAnswers (commands.Write (writes.AddVertex 1) ∷ commands.Abort ∷ [])
      (answers.Done ∷ answers.Aborted ∷ []) [] → ⊥
  pub met_nobody : GetsAnswers (commands.Write (writes.AddVertex 2) ∷ commands.Abort ∷ [])
      (answers.Conflict (Later 1) ∷ answers.Skipped ∷ []) [] → ⊥
  -- only an added vertex or edge wants a place, however few leaves there are
  pub full_at_a_set : FindsNoPlace (commands.Write (writes.SetEdge 1 2 9)) → ⊥
  pub full_at_a_dropped_edge : FindsNoPlace (commands.Write (writes.DropEdge 1 2)) → ⊥
  pub full_at_a_removed_vertex : FindsNoPlace (commands.Write (writes.DropVertex 4)) → ⊥
  pub full_at_what_exists : FindsNoPlace (commands.Write (writes.AddVertex 4)) → ⊥
  pub full_too_early : GetsAnswers (commands.Write (writes.AddVertex 2) ∷ commands.Abort ∷ [])
      (answers.Full ∷ answers.Skipped ∷ []) [] → ⊥
  pub skipped_alone : GetsAnswers (commands.Read Counts ∷ commands.Abort ∷ [])
      (answers.Skipped ∷ answers.Aborted ∷ []) [] → ⊥
  pub not_skipped : GetsAnswers (commands.Write (writes.AddVertex 2) ∷ commands.Abort ∷ [])
      (answers.Full ∷ answers.Aborted ∷ []) [] → ⊥
  pub commits_nothing : GetsAnswers (commands.Commit ∷ [])
      (answers.Committed (Some 1) ∷ []) [] → ⊥
  pub forgets_a_write : GetsAnswers (commands.Write (writes.AddVertex 2) ∷ commands.Commit ∷ [])
      (answers.Done ∷ answers.Committed None ∷ []) [] → ⊥
  pub lacks_its_file : GetsAnswers (commands.Run Wcc (codes "f") ∷ commands.Abort ∷ [])
      (answers.Table 1 ∷ answers.Aborted ∷ []) [] → ⊥
  pub unasked_file : GetsAnswers (commands.Abort ∷ [])
      (answers.Aborted ∷ []) (record { name = codes "f"; table = [] } ∷ []) → ⊥

-- a transaction begins so
abbrev pub Begins : TxnName → ℕ → Type 0
Begins by start =
    Gives one_vertex ((commands.Begin ∷ commands.Abort ∷ []) ∷ []) (load_commit one_vertex ∷ [])
    ((answers.Begun by start ∷ answers.Aborted ∷ []) ∷ []) ([] ∷ [])

-- the first script sets the weight 9, and the second begins twice
abbrev pub BeginsAgain : List Command → List Answer → Type 0
BeginsAgain cs report =
    Gives load (sets 9 ∷ cs ∷ []) (load_commit load ∷ nine 2 ∷ [])
    ((answers.Begun (txn_name 1 1) 1 ∷ answers.Done ∷ answers.Committed (Some 2) ∷ []) ∷ report ∷ [])
    ([] ∷ [] ∷ [])

-- one other part is wrong
pub record WrongParts : Type 0 where
  pub begins_before_the_load : Begins (txn_name 1 1) 0 → ⊥
  pub begins_in_the_future : Begins (txn_name 1 1) 2 → ⊥
  pub has_another_name : Begins (txn_name 1 2) 1 → ⊥
  pub begins_before_its_last_commit : Gives load
      ((commands.Begin ∷ commands.Write (writes.SetEdge 1 2 9) ∷ commands.Commit ∷ commands.Begin ∷ commands.Abort ∷ []) ∷ [])
      (load_commit load ∷ nine 2 ∷ [])
      ((answers.Begun (txn_name 1 1) 1 ∷ answers.Done ∷ answers.Committed (Some 2)
      ∷ answers.Begun (txn_name 1 2) 1 ∷ answers.Aborted ∷ []) ∷ []) ([] ∷ []) → ⊥
  -- nor before a later commit that a conflict has shown it, nor before an earlier start of its own
  pub begins_before_a_shown_conflict : BeginsAgain
      (sets 8 ++ commands.Begin ∷ commands.Abort ∷ [])
      (answers.Begun (txn_name 2 1) 1 ∷ answers.Conflict (Later 2) ∷ answers.Skipped
      ∷ answers.Begun (txn_name 2 2) 1 ∷ answers.Aborted ∷ []) → ⊥
  pub begins_before_its_last_start : BeginsAgain
      (commands.Begin ∷ commands.Abort ∷ commands.Begin ∷ commands.Abort ∷ [])
      (answers.Begun (txn_name 2 1) 2 ∷ answers.Aborted ∷ answers.Begun (txn_name 2 2) 1 ∷ answers.Aborted ∷ []) → ⊥
  pub too_many_scripts : Gives [] (replicate 61 []) [] (replicate 61 []) (replicate 61 []) → ⊥
  pub commits_another_write : Gives load (sets 8 ∷ []) (load_commit load ∷ nine 2 ∷ [])
      ((answers.Begun (txn_name 1 1) 1 ∷ answers.Done ∷ answers.Committed (Some 2) ∷ []) ∷ []) ([] ∷ []) → ⊥
  pub not_begun : Gives [] ((commands.Commit ∷ []) ∷ []) [] ((answers.Committed None ∷ []) ∷ []) ([] ∷ []) → ⊥
  pub skips_a_stamp : Gives load (sets 9 ∷ []) (load_commit load ∷ nine 3 ∷ [])
      ((answers.Begun (txn_name 1 1) 1 ∷ answers.Done ∷ answers.Committed (Some 3) ∷ []) ∷ []) ([] ∷ []) → ⊥
  pub not_loaded : Gives one_vertex [] [] [] [] → ⊥
  pub not_reported : Gives [] ([] ∷ []) [] [] ([] ∷ []) → ⊥
  pub reported_in_part : Gives [] ((commands.Begin ∷ commands.Abort ∷ []) ∷ []) []
      ((answers.Begun (txn_name 1 1) 0 ∷ []) ∷ []) ([] ∷ []) → ⊥
  pub commits_unasked : Gives load [] (load_commit load ∷ nine 2 ∷ []) [] [] → ⊥
  pub lacks_its_files : Gives [] ([] ∷ []) [] ([] ∷ []) [] → ⊥

-- ---- texts

-- the texts of a small journal, and of one answer of each kind
abbrev pub small_journal : List Commit
small_journal =
    record {
      stamp = 1;
      start = 0;
      by = txn_name 0 1;
      writes = writes.AddVertex 1 ∷ writes.AddVertex 20 ∷ writes.AddEdge 1 20 1 ∷ [];
    }
    ∷ record {
      stamp = 2;
      start = 1;
      by = txn_name 1 3;
      writes = writes.SetEdge 1 20 9 ∷ writes.DropEdge 20 1 ∷ writes.DropVertex 1 ∷ [];
    } ∷ []

abbrev pub all_answers : List Answer
all_answers =
    answers.Begun (txn_name 2 1) 1 ∷ answers.Done ∷ answers.Exists ∷ answers.SelfLoop ∷ answers.NoVertex 9
    ∷ answers.NoEdge ∷ answers.HasEdges ∷ answers.Conflict (Later 2) ∷ answers.Conflict (Holder (txn_name 1 1))
    ∷ answers.Full ∷ answers.Weight 5 ∷ answers.Nothing ∷ answers.Neighbours (2 ∷ 4 ∷ []) ∷ answers.Counted 4 2
    ∷ answers.Table 4 ∷ answers.Committed (Some 2) ∷ answers.Committed None ∷ answers.Aborted
    ∷ answers.Skipped ∷ []

pub record TextExamples : Type 0 where
  pub journal : journal_text small_journal ≡
      codes "commit 1 start 0 by 0.1\nvertex 1\nvertex 20\nedge 1 20 1\n"
      ++ codes "commit 2 start 1 by 1.3\nset 1 20 9\ndrop 20 1\nunvertex 1\n"
  pub report : report_text all_answers ≡
      codes "begin 2.1 start 1\nok\nexists\nself loop\nno vertex 9\nno edge\nhas edges\n"
      ++ codes "conflict later 2\nconflict open 1.1\nfull\nweight 5\nnone\nneighbours 2 2 4\n"
      ++ codes "vertices 4 edges 2\ntable 4\ncommit 2\ncommit -\naborted\nskipped\n"

-- ---- runs by turns

-- the order of turns, and how many of them are the service's
pub record OrderExamples : Type 0 where
  pub by_rotation : map (turn_at 2 []) (0 ∷ 1 ∷ 2 ∷ 3 ∷ 4 ∷ 5 ∷ 6 ∷ []) ≡ 1 ∷ 2 ∷ 0 ∷ 1 ∷ 2 ∷ 0 ∷ 1 ∷ []
  -- behind the schedule the rotation begins with the first script
  pub by_schedule : map (turn_at 2 (2 ∷ 0 ∷ [])) (0 ∷ 1 ∷ 2 ∷ 3 ∷ 4 ∷ 5 ∷ 6 ∷ []) ≡ 2 ∷ 0 ∷ 1 ∷ 2 ∷ 0 ∷ 1 ∷ 2 ∷ []
  pub service : map (service_turns 2 (2 ∷ 0 ∷ [])) (1 ∷ 2 ∷ 3 ∷ 4 ∷ 5 ∷ 6 ∷ []) ≡ 0 ∷ 1 ∷ 1 ∷ 1 ∷ 2 ∷ 2 ∷ []
  pub one_script : map (turn_at 1 []) (0 ∷ 1 ∷ 2 ∷ 3 ∷ []) ≡ 1 ∷ 0 ∷ 1 ∷ 0 ∷ []

-- by these turns, two scripts that set one edge begin together; the first commits, and the second meets this
abbrev pub MeetsByTurns : List ℕ → Cause → Type 0
MeetsByTurns schedule cause =
    IsStepped (record { kind = Undirected; load = load; scripts = sets 9 ∷ sets 8 ∷ [] }) 1 schedule (record {
      journal = load_commit load ∷ nine 2 ∷ [];
      reports = (answers.Begun (txn_name 1 1) 1 ∷ answers.Done ∷ answers.Committed (Some 2) ∷ [])
          ∷ (answers.Begun (txn_name 2 1) 1 ∷ answers.Conflict cause ∷ answers.Skipped ∷ []) ∷ [];
      files = [] ∷ [] ∷ [];
    })

-- the schedule settles what it is
pub record TurnExamples : Type 0 where
  -- by rotation the first is open when the second sets the edge
  pub while_open : MeetsByTurns [] (Holder (txn_name 1 1))
  pub not_yet_later : MeetsByTurns [] (Later 2) → ⊥
  -- it has committed by then, where the schedule gives it three turns in a row
  pub once_committed : MeetsByTurns (2 ∷ 1 ∷ 1 ∷ 1 ∷ 2 ∷ 2 ∷ []) (Later 2)
  pub no_longer_open : MeetsByTurns (2 ∷ 1 ∷ 1 ∷ 1 ∷ 2 ∷ 2 ∷ []) (Holder (txn_name 1 1)) → ⊥

-- the vertices from n down to 1
abbrev pub vertices_to : ℕ → List Write
vertices_to zero = []
vertices_to (suc n) = writes.AddVertex (suc n) ∷ vertices_to n

-- a script counts so many rows, beside one that does nothing
abbrev pub CountsRows : ℕ → Type 0
CountsRows n =
    IsStepped (record {
      kind = Undirected;
      load = vertices_to n;
      scripts = (commands.Begin ∷ commands.Read Counts ∷ commands.Abort ∷ []) ∷ (commands.Begin ∷ commands.Commit ∷ []) ∷ [];
    }) 1 [] (record {
      journal = load_commit (vertices_to n) ∷ [];
      reports = (answers.Begun (txn_name 1 1) 1 ∷ answers.Counted n 0 ∷ answers.Aborted ∷ [])
          ∷ (answers.Begun (txn_name 2 1) 1 ∷ answers.Committed None ∷ []) ∷ [];
      files = [] ∷ [] ∷ [];
    })

-- 63 rows are counted in one turn of the script, and 64 in two: then the run takes three turns more, one of them
-- of a script that has ended
pub record CountExamples : Type 0 where
  pub in_one : CountsRows 63
  pub one_turn : in_one.turns ≡ 7
  pub in_two : CountsRows 64
  pub two_turns : in_two.turns ≡ 10
  pub service : service_turns 2 [] in_two.turns ≡ 3

-- a script that adds a vertex, on so many leaves, is answered this by turns
abbrev pub AddsByTurns : ℕ → List Answer → Type 0
AddsByTurns leaves report =
    IsStepped (record {
      kind = Undirected;
      load = one_vertex;
      scripts = (commands.Begin ∷ commands.Write (writes.AddVertex 2) ∷ commands.Abort ∷ []) ∷ [];
    }) leaves [] (record {
      journal = load_commit one_vertex ∷ [];
      reports = (answers.Begun (txn_name 1 1) 1 ∷ report) ∷ [];
      files = [] ∷ [];
    })

-- where no leaf is left a place may be missed or found, and where one is, it is found
pub record PlaceExamples : Type 0 where
  pub missed : AddsByTurns 0 (answers.Full ∷ answers.Skipped ∷ [])
  pub found : AddsByTurns 0 (answers.Done ∷ answers.Aborted ∷ [])
  pub too_early : AddsByTurns 1 (answers.Full ∷ answers.Skipped ∷ []) → ⊥
