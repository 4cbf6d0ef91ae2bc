-- Worked by hand: what lines of each kind are answered on graphs with weighted edges, and how many turns they take.
use Rattle.std.specs.Prelude.{◌≡◌, ℕ, zero, suc, true, List, [], ◌∷◌, ◌++◌, codes, Some, None}
use Rattle.graph_model.specs.declared.write.Kind.{Kind}
use Rattle.graph_model.specs.declared.write.Kind.TheVariants.{Directed, Undirected}
use Rattle.graph_model.specs.declared.write.Write.{Write}
use Rattle.graph_model.specs.declared.write.Write.TheVariants as writes
use Rattle.graph_model.specs.declared.table.Entry.{Entry}
use Rattle.graph_model.specs.KernelExamples.{entry}
use Rattle.run_model.specs.declared.command.Command.{Command}
use Rattle.run_model.specs.declared.command.Command.TheVariants as commands
use Rattle.run_model.specs.declared.command.Query.TheVariants.{WeightOf, NeighboursOf, Counts}
use Rattle.run_model.specs.declared.command.Kernel.{Kernel}
use Rattle.run_model.specs.declared.command.Kernel.TheVariants.{Bfs, Wcc, Cdlp, Sssp, FastBfs, FastSssp}
use Rattle.run_model.specs.declared.answer.Answer.{Answer}
use Rattle.run_model.specs.declared.answer.Answer.TheVariants as answers
use Rattle.run_model.specs.Inputs.{File}
use Rattle.run_model.specs.Run.{load_commit}
use Rattle.run_model.specs.Jobs.{JobState, new_job, turns_of}
use Rattle.run_model.specs.Examples.{GetsOn, vertices_to}

-- ---- answers

-- three vertices; the arc from 1 to 2 is heavier than the way over 3
abbrev pub arcs : List Write
arcs =
    writes.AddVertex 1 ∷ writes.AddVertex 2 ∷ writes.AddVertex 3
    ∷ writes.AddEdge 1 2 5 ∷ writes.AddEdge 1 3 2 ∷ writes.AddEdge 3 2 2 ∷ []

-- a transaction that ends with `abort` is answered this on these arcs
abbrev pub OnArcs : List Command → List Answer → List File → Type 0
OnArcs cs report files =
    GetsOn Directed arcs (cs ++ commands.Abort ∷ []) (report ++ answers.Aborted ∷ []) files

-- and on the edges of the same ends, which have no direction
abbrev pub OnEdges : List Command → List Answer → Type 0
OnEdges cs report = GetsOn Undirected arcs (cs ++ commands.Abort ∷ []) (report ++ answers.Aborted ∷ []) []

-- a kernel file with this name
abbrev pub file : List ℕ → List Entry → File
file name table = record { name = name; table = table }

-- the fewest arcs from vertex 1, and the least weights
abbrev pub hops : List Entry
hops = entry 1 0 ∷ entry 2 1 ∷ entry 3 1 ∷ []

abbrev pub weights : List Entry
weights = entry 1 0 ∷ entry 2 4 ∷ entry 3 2 ∷ []

-- one line alone gets this answer
abbrev pub Answers : Command → Answer → Type 0
Answers c answer = OnArcs (c ∷ []) (answer ∷ []) []

abbrev pub AnswersOnEdges : Command → Answer → Type 0
AnswersOnEdges c answer = OnEdges (c ∷ []) (answer ∷ [])

-- the line of a kernel has this table in its file
abbrev pub Files : Kernel → List Entry → Type 0
Files kernel table = OnArcs (commands.Run kernel (codes "f") ∷ []) (answers.Table 3 ∷ []) (file (codes "f") table ∷ [])

-- reads, each with its right answer and a wrong one
pub record ReadExamples : Type 0 where
  pub weight : Answers (commands.Read (WeightOf 1 2)) (answers.Weight 5)
  pub not_the_way_round : Answers (commands.Read (WeightOf 1 2)) (answers.Weight 4) → ⊥
  pub no_way_back : Answers (commands.Read (WeightOf 2 1)) answers.Nothing
  pub weight_back : Answers (commands.Read (WeightOf 2 1)) (answers.Weight 5) → ⊥
  pub both_ways : AnswersOnEdges (commands.Read (WeightOf 2 1)) (answers.Weight 5)
  pub not_one_way : AnswersOnEdges (commands.Read (WeightOf 2 1)) answers.Nothing → ⊥
  pub targets : Answers (commands.Read (NeighboursOf 1)) (answers.Neighbours (2 ∷ 3 ∷ []))
  pub one_too_great : Answers (commands.Read (NeighboursOf 1)) (answers.Neighbours (3 ∷ 4 ∷ [])) → ⊥
  pub no_targets : Answers (commands.Read (NeighboursOf 2)) (answers.Neighbours [])
  pub either_end : AnswersOnEdges (commands.Read (NeighboursOf 2)) (answers.Neighbours (1 ∷ 3 ∷ []))
  pub count : Answers (commands.Read Counts) (answers.Counted 3 3)
  pub edges_once : AnswersOnEdges (commands.Read Counts) (answers.Counted 3 3)
  pub edges_twice : AnswersOnEdges (commands.Read Counts) (answers.Counted 3 6) → ⊥

-- writes, and what is read behind them
pub record WriteExamples : Type 0 where
  pub added : OnArcs (commands.Write (writes.AddEdge 2 1 7) ∷ commands.Read (WeightOf 2 1) ∷ [])
      (answers.Done ∷ answers.Weight 7 ∷ []) []
  pub added_with_one : OnArcs (commands.Write (writes.AddEdge 2 1 7) ∷ commands.Read (WeightOf 2 1) ∷ [])
      (answers.Done ∷ answers.Weight 1 ∷ []) [] → ⊥
  pub set : OnArcs (commands.Write (writes.SetEdge 1 2 9) ∷ commands.Read (WeightOf 1 2) ∷ []) (answers.Done ∷ answers.Weight 9 ∷ []) []
  pub not_set : OnArcs (commands.Write (writes.SetEdge 1 2 9) ∷ commands.Read (WeightOf 1 2) ∷ [])
      (answers.Done ∷ answers.Weight 5 ∷ []) [] → ⊥
  pub dropped : OnArcs (commands.Write (writes.DropEdge 1 2) ∷ commands.Read (WeightOf 1 2) ∷ commands.Read Counts ∷ [])
      (answers.Done ∷ answers.Nothing ∷ answers.Counted 3 2 ∷ []) []
  pub not_dropped : Answers (commands.Write (writes.DropEdge 1 2)) answers.HasEdges → ⊥
  pub edge_exists : Answers (commands.Write (writes.AddEdge 1 2 7)) answers.Exists
  pub no_edge : Answers (commands.Write (writes.DropEdge 2 1)) answers.NoEdge
  pub has_edges : Answers (commands.Write (writes.DropVertex 2)) answers.HasEdges
  pub has_no_edge : Answers (commands.Write (writes.DropVertex 2)) answers.NoEdge → ⊥
  pub removed_with_edges : Answers (commands.Write (writes.DropVertex 2)) answers.Done → ⊥
  pub no_vertex_to_remove : Answers (commands.Write (writes.DropVertex 9)) (answers.NoVertex 9)

-- kernels, whose tables differ
pub record KernelExamples : Type 0 where
  pub bfs : Files (Bfs 1) hops
  pub bfs_by_weight : Files (Bfs 1) weights → ⊥
  pub sssp : Files (Sssp 1) weights
  pub sssp_by_arcs : Files (Sssp 1) hops → ⊥
  -- the faster algorithms give the same
  pub fast_bfs : Files (FastBfs 1) hops
  pub fast_bfs_by_weight : Files (FastBfs 1) weights → ⊥
  pub fast_sssp : Files (FastSssp 1 3) weights
  pub fast_sssp_by_arcs : Files (FastSssp 1 3) hops → ⊥
  pub wcc : Files Wcc (entry 1 1 ∷ entry 2 1 ∷ entry 3 1 ∷ [])
  pub cdlp : Files (Cdlp 1) (entry 1 2 ∷ entry 2 1 ∷ entry 3 1 ∷ [])
  -- one more round is another table
  pub cdlp_of_no_round : Files (Cdlp 0) (entry 1 2 ∷ entry 2 1 ∷ entry 3 1 ∷ []) → ⊥
  -- a root that isn't there has no file
  pub no_root : Answers (commands.Run (Bfs 9) (codes "f")) (answers.NoVertex 9)
  pub no_root_of_paths : Answers (commands.Run (Sssp 9) (codes "f")) (answers.NoVertex 9)
  pub table_without_a_root : Answers (commands.Run (Sssp 9) (codes "f")) (answers.Table 3) → ⊥
  pub unfiled : Answers (commands.Run (Sssp 1) (codes "f")) (answers.Table 3) → ⊥

-- ---- turns

-- a script whose open transaction began behind the load
abbrev pub reading : JobState
reading = record (new_job []) { begun = 1; start = Some 1 }

-- how many turns a line of this script takes on what was loaded
abbrev pub turns_on : Kind → List Write → JobState → Command → ℕ
turns_on kind load j c = turns_of kind (load_commit load ∷ []) j c

-- edges to the vertices from n down to 1
abbrev pub edges_to : ℕ → ℕ → List Write
edges_to u zero = []
edges_to u (suc n) = writes.AddEdge u (suc n) 1 ∷ edges_to u n

-- vertices from n + 1 down to 1, and edges from the first of them to all others
abbrev pub star : ℕ → List Write
star n = vertices_to (suc n) ++ edges_to (suc n) n

-- a line that scans 63 rows takes one turn, and one that scans 64 takes two
pub record LineTurnExamples : Type 0 where
  pub kernel : turns_on Undirected (vertices_to 63) reading (commands.Run Wcc (codes "f")) ≡ 1
  pub longer_kernel : turns_on Undirected (vertices_to 64) reading (commands.Run Wcc (codes "f")) ≡ 2
  -- a root that isn't there is found with the last turn
  pub no_root : turns_on Undirected (vertices_to 64) reading (commands.Run (Bfs 99) (codes "f")) ≡ 2
  pub neighbours : turns_on Directed (star 63) reading (commands.Read (NeighboursOf 64)) ≡ 1
  pub more_neighbours : turns_on Directed (star 64) reading (commands.Read (NeighboursOf 65)) ≡ 2
  pub no_neighbours : turns_on Directed (star 64) reading (commands.Read (NeighboursOf 1)) ≡ 1
  -- vertices and arcs are rows, and an edge without direction is two
  pub arcs : turns_on Directed (star 31) reading (commands.Read Counts) ≡ 1
  pub more_arcs : turns_on Directed (star 32) reading (commands.Read Counts) ≡ 2
  pub two_a_edge : turns_on Undirected (star 21) reading (commands.Read Counts) ≡ 2
  -- no other line scans, and a line that is skipped takes one turn
  pub weight : turns_on Directed (star 64) reading (commands.Read (WeightOf 65 1)) ≡ 1
  pub write : turns_on Directed (star 64) reading (commands.Write (writes.DropEdge 65 1)) ≡ 1
  pub skipped :
      turns_on Undirected (vertices_to 64) (record reading { start = None; skipping = true }) (commands.Read Counts) ≡ 1
