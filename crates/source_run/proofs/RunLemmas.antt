-- The engine of a run before its first turn, and what the run leaves.
use Rattle.std.proofs.Common.{◌≡◌, ℕ, zero, suc, ◌+◌, ◌*◌, ◌<◌, ◌≤◌, List, [], ◌∷◌, length, map, take, get_or, All, refl, sym, ◌∙◌, ap, subst, arith, replicate}
use Rattle.std.specs.Prelude.{true, false, Bool, cond, min, ◌-◌, ◌^◌, slice_get, Some, None, unwrap_or, Result, Ok, Err, IsErrAnd, IfErr}
use Rattle.std.specs.List.{AllByRecursion}
use Rattle.std.proofs.lemmas.List.{append-nil}
use Rattle.std.proofs.lemmas.List.Elements.{All-tail, All-head}
use Rattle.std.proofs.lemmas.Option.{slice_get_within}
use Rattle.graph_model.specs.declared.limits.TheConstants.{MAX_LOAD_ROWS, SPLIT_ROWS}
use Rattle.graph_model.specs.declared.write.Write.{Write}
use Rattle.graph_model.specs.declared.write.Write.TheVariants.{AddVertex}
use Rattle.graph_model.specs.declared.write.Kind.{Kind}
use Rattle.graph_model.specs.declared.write.Kind.TheVariants.{Directed, Undirected}
use Rattle.graph_model.specs.declared.load.LoadRefusal.{LoadRefusal}
use Rattle.graph_model.specs.declared.load.LoadRefusal.TheVariants as refusals
use Rattle.graph_model.specs.Refused.{AllAllowed, IsWithinLimits}
use Rattle.graph_model.specs.Graph.{empty_graph, vertices_of}
use Rattle.graph_model.specs.History.{graph_at}
use Rattle.graph_model.specs.Inserted.{inserted, inserted_by}
use Rattle.graph_model.specs.Loading.{HasBegunNothing, IsNew, IsAdd, IsLoad, IsLoadRefusal, journal_of, loaded}
use Rattle.graph_model.specs.OwnerCalls.{PassState, Core, no_pass, pass_at}
use Rattle.graphalytics_io.specs.declared.edges.Edge.{Edge}
use Rattle.graphalytics_io.specs.Load.{load_of, added_edge}
use Rattle.graph_files.specs.EdgeFiles.{arcs_of}
use Rattle.graph_files.specs.Laws.{FilesAreWithinLimits}
use Rattle.run_model.specs.declared.command.Command.{Command}
use Rattle.run_model.specs.declared.command.Command.TheVariants as commands
use Rattle.run_model.specs.Commands.{next_txn, begun_by}
use Rattle.run_model.specs.Inputs.{Inputs, AreInputs, Outputs}
use Rattle.run_model.specs.Laws.{SteppedRunsAreRuns}
use Rattle.run_model.specs.Stepped.{service_turns}
use Rattle.serial_model.specs.Laws.{SerialSteppedRunsAreSerialRuns}
use Rattle.run_model.specs.Jobs.{load_journal}
use Rattle.run_model.proofs.SetLemmas.{sum_cons}
use Rattle.txn_manager.specs.declared.config.Config.{Config}
use Rattle.serial_runner.specs.TeseoCore.Passes.{new_pass}
use Rattle.serial_runner.specs.TeseoCore.Keeping.{LeftStore, new_core, newest_graph, edges_of}
use Rattle.serial_runner.specs.JobRunner.Progress.{Progress}
use Rattle.serial_runner.specs.JobRunner.Runs.{new_jobs, IsUnused, AreNew, outputs_of}
use Rattle.command_words.specs.Words.{RunRequest}
use Rattle.source_run.specs.Requests.{kind_of, rules_of}
use Rattle.source_run.specs.declared.run.SteppedRun.{SteppedRun}
use Rattle.source_run.specs.Input.{Meaning, Texts, IsAccepted}
use Rattle.source_run.specs.Running.{stepped_outputs, IsRunAs, IsLeftAs, EndsAs, HasCounts, Fits, IsConfig, IsRefusedLoad}

-- ---- transactions that a script begins

next_grows : (n : ℕ) (r : Command) → n ≤ next_txn n r
next_grows n commands.Begin = omega arith
next_grows n commands.Commit = omega arith
next_grows n commands.Abort = omega arith
next_grows n (commands.Write w) = omega arith
next_grows n (commands.Read query) = omega arith
next_grows n (commands.Run kernel file) = omega arith

begun_grows : (cs : List Command) (n : ℕ) → n ≤ begun_by n cs
begun_grows [] n = omega arith
begun_grows (c ∷ cs) n = omega (arith, next_grows n c, begun_grows cs (next_txn n c))

-- no more are begun by the first lines than by all
pub begun_within : (cs : List Command) (n i : ℕ) → begun_by n (take i cs) ≤ begun_by n cs
begun_within cs n zero = begun_grows cs n
begun_within [] n (suc i) = omega arith
begun_within (c ∷ cs) n (suc i) = begun_within cs (next_txn n c) i

-- one line more
begun_more : (cs : List Command) (n i : ℕ) (d : Command) → i < length cs → begun_by n (take (suc i) cs) ≡ next_txn (begun_by n (take i cs)) (get_or cs i d)
begun_more [] n i d lt = absurd (omega (arith, lt))
begun_more (c ∷ cs) n zero d lt = refl
begun_more (c ∷ cs) n (suc i) d lt = begun_more cs (next_txn n c) i d (omega (arith, lt))

-- a line is counted where it begins a transaction
pub begun_next : (cs : List Command) (i : ℕ) (c : Command) → i < length cs → c ≡ get_or cs i c → (begins : Bool) → ((n : ℕ) → next_txn n c ≡ cond begins (n + 1) n)
    → (count : ℕ) → count ≡ begun_by 0 (take i cs) → cond begins (count + 1) count ≡ begun_by 0 (take (i + 1) cs)
begun_next cs i c lt is begins next count counted =
    let one_more : suc i ≡ i + 1 = omega arith in
    sym (next count) ∙ (λ j. next_txn (counted j) (is j)) ∙ sym (begun_more cs 0 i c lt) ∙ ap (λ k. begun_by 0 (take k cs)) one_more

-- ---- jobs

pub new_jobs_count : (number : ℕ) (scripts : List (List Command)) → length (new_jobs number scripts) ≡ length scripts
new_jobs_count number [] = refl
new_jobs_count number (cs ∷ scripts) = ap suc (new_jobs_count (number + 1) scripts)

-- ---- the engine

each_new : (allowed n : ℕ) → AllByRecursion HasBegunNothing (replicate n (new_pass allowed))
each_new allowed zero = tt
each_new allowed (suc n) = (record { begun = refl; made = refl; start = refl; own = refl }, each_new allowed n)

module _ (kind : Kind) (leaves : ℕ) (scripts : List (List Command)) (config : Config) (is : IsConfig kind leaves scripts config) where
  passes_are : (new_core config).passes ≡ new_pass config.txns_per_pass ∷ replicate (length scripts) (new_pass config.txns_per_pass)
  passes_are = ap (λ n. replicate n (new_pass config.txns_per_pass)) is.passes

  pub is_new : IsNew (new_core config)
  is_new = record {
    first = new_pass config.txns_per_pass;
    others = replicate (length scripts) (new_pass config.txns_per_pass);
    passes = passes_are;
    selected = refl;
    journal = refl;
    each = each_new config.txns_per_pass (suc (length scripts));
    allowed = is.some;
  }

-- ---- behind the load

-- one of some passes that have begun nothing has begun nothing, nor has a pass that isn't there
unused_at : (allowed n k : ℕ) → IsUnused (unwrap_or (slice_get (replicate n (new_pass allowed)) k) no_pass)
unused_at allowed zero k = record { made = refl; closed = refl; own = refl; begun = refl }
unused_at allowed (suc n) zero = record { made = refl; closed = refl; own = refl; begun = refl }
unused_at allowed (suc n) (suc k) = unused_at allowed n k

allowed_at : (allowed n k : ℕ) → k < n → (unwrap_or (slice_get (replicate n (new_pass allowed)) k) no_pass).allowed ≡ allowed
allowed_at allowed zero k lt = absurd (omega (arith, lt))
allowed_at allowed (suc n) zero lt = refl
allowed_at allowed (suc n) (suc k) lt = allowed_at allowed n k (omega (arith, lt))

count_new : (allowed n : ℕ) → length (replicate n (new_pass allowed)) ≡ n
count_new allowed zero = refl
count_new allowed (suc n) = ap suc (count_new allowed n)

journals_agree : (load : List Write) → journal_of load ≡ load_journal load
journals_agree [] = refl
journals_agree (w ∷ ws) = refl

module _ (inputs : Inputs) (leaves : ℕ) (config : Config) (is : IsConfig inputs.kind leaves inputs.scripts config) (given : AreInputs inputs) where
  first : PassState
  first = record (new_pass config.txns_per_pass) { begun = 1; made = inputs.load ∷ [] }

  others : List PassState
  others = replicate (length inputs.scripts) (new_pass config.txns_per_pass)

  core : Core
  core = record (new_core config) { passes = first ∷ others; journal = journal_of inputs.load }

  -- the load has a pass of its own, and the others have begun nothing
  core_is : loaded (new_core config) inputs.load ≡ core
  unfolding first others core
  core_is = λ i. record {
    kind = config.kind;
    leaves = config.leaves;
    journal = journal_of inputs.load;
    passes = loaded_passes (passes_are inputs.kind leaves inputs.scripts config is i);
    selected = 0;
    served = 0;
  }
    where
      loaded_passes : List PassState → List PassState
      loaded_passes ps = (loaded (record (new_core config) { passes = ps }) inputs.load).passes

  new_of : AreNew inputs core (new_jobs 1 inputs.scripts)
  unfolding first others core
  new_of = record {
    given = given;
    kind = is.kind_is;
    journal = journals_agree inputs.load;
    loaded = append-nil inputs.load;
    closed = refl;
    unused = unused_at config.txns_per_pass (length inputs.scripts);
    room = λ k cs at. subst (λ n. begun_by 0 cs ≤ n) (sym (allowed_at config.txns_per_pass (length inputs.scripts) k (slice_get_within inputs.scripts k cs at))) (is.begins k cs at);
    jobs_are = refl;
    passes = omega (arith, new_jobs_count 1 inputs.scripts, count_new config.txns_per_pass (length inputs.scripts));
  }

  pub are_new : AreNew inputs (loaded (new_core config) inputs.load) (new_jobs 1 inputs.scripts)
  are_new = subst (λ c. AreNew inputs c (new_jobs 1 inputs.scripts)) (sym core_is) new_of

  -- the engine and the jobs, as the code comes to them
  pub started : (before engine : Core) (jobs : List Progress) → before ≡ new_core config → engine ≡ loaded before inputs.load → jobs ≡ new_jobs 1 inputs.scripts → AreNew inputs engine jobs
  started before engine jobs before_is engine_is jobs_are =
      subst (λ c. AreNew inputs c jobs) (sym (engine_is ∙ ap (λ c. loaded c inputs.load) before_is))
      (subst (λ js. AreNew inputs (loaded (new_core config) inputs.load) js) (sym jobs_are) are_new)

  pub ended : (is_serial : Bool) (before engine new : Core) (jobs last : List Progress) (listed : List ℕ) → before ≡ new_core config → engine ≡ loaded before inputs.load → jobs ≡ new_jobs 1 inputs.scripts
      → ((i : Inputs) → AreNew i engine jobs → EndsAs is_serial i listed engine new last) → EndsAs is_serial inputs listed engine new last
  ended is_serial before engine new jobs last listed before_is engine_is jobs_are ends = ends inputs (started before engine jobs before_is engine_is jobs_are)

  pub none_served : (before engine : Core) → before ≡ new_core config → engine ≡ loaded before inputs.load → engine.served ≡ 0
  none_served before engine before_is engine_is = ap (λ c. c.served) engine_is ∙ ap (λ c. c.served) before_is

  pub leaves_are : (before engine : Core) → before ≡ new_core config → engine ≡ loaded before inputs.load → engine.leaves ≡ leaves
  leaves_are before engine before_is engine_is = ap (λ c. c.leaves) engine_is ∙ ap (λ c. c.leaves) before_is ∙ is.leaves_are

-- ---- what a run leaves

-- no transaction is open at the end
pub closed_as : (is_serial : Bool) (inputs : Inputs) (listed : List ℕ) (engine new : Core) (jobs : List Progress) → EndsAs is_serial inputs listed engine new jobs → (p : ℕ) → (pass_at new p).start ≡ None
closed_as false inputs listed engine new jobs ends = ends.closed
closed_as true inputs listed engine new jobs ends = ends.closed

pub kind_as : (is_serial : Bool) (inputs : Inputs) (listed : List ℕ) (engine new : Core) (jobs : List Progress) → EndsAs is_serial inputs listed engine new jobs → new.kind ≡ inputs.kind
kind_as false inputs listed engine new jobs ends = ends.kind
kind_as true inputs listed engine new jobs ends = ends.kind

module _ (inputs : Inputs) (leaves : ℕ) (schedule listed : List ℕ) (engine new : Core) (jobs : List Progress) (r : SteppedRun) (same : listed ≡ schedule) (leaves_is : engine.leaves ≡ leaves) (zero_served : engine.served ≡ 0)
    (ran : r.ran.core ≡ new) (settled : r.ran.settled ≡ true) (jobs_are : r.jobs ≡ jobs) where
  -- the run, as the code hands it on
  left_as : (is_serial : Bool) → IsLeftAs is_serial inputs engine.leaves listed (outputs_of new jobs) (record { core = new; settled = r.ran.settled }) → IsLeftAs is_serial inputs leaves schedule (stepped_outputs r) r.ran
  left_as is_serial left =
      subst (λ (x : Core). IsLeftAs is_serial inputs leaves schedule (outputs_of x r.jobs) (record { core = x; settled = r.ran.settled })) (sym ran)
      (subst (λ js. IsLeftAs is_serial inputs leaves schedule (outputs_of new js) (record { core = new; settled = r.ran.settled })) (sym jobs_are)
      (subst (λ n. IsLeftAs is_serial inputs n schedule (outputs_of new jobs) (record { core = new; settled = r.ran.settled })) leaves_is
      (subst (λ turns. IsLeftAs is_serial inputs engine.leaves turns (outputs_of new jobs) (record { core = new; settled = r.ran.settled })) same left)))

  served_is : (turns : ℕ) → (engine.served < 2 ^ 64 → new.served ≡ min (engine.served + turns) (2 ^ 64 - 1)) → new.served ≡ min turns (2 ^ 64 - 1)
  served_is turns served = served (omega (arith, zero_served)) ∙ ap (λ n. min n (2 ^ 64 - 1)) (omega (arith, zero_served))

  pub left_by_run : (is_serial : Bool) → EndsAs is_serial inputs listed engine new jobs → IsLeftAs is_serial inputs leaves schedule (stepped_outputs r) r.ran
  left_by_run false ends = left_as false
      (record { stepped = ends.run; journal = refl; passes = ends.passes; served = served_is (service_turns (length inputs.scripts) listed ends.run.turns) ends.served; settled = settled })
  left_by_run true ends = left_as true
      (record { stepped = ends.run; journal = refl; passes = ends.passes; served = served_is (service_turns (length inputs.scripts) listed ends.run.turns) ends.served; settled = settled })

-- what was left by such turns is such a run
pub run_as : SteppedRunsAreRuns → SerialSteppedRunsAreSerialRuns → (is_serial : Bool) (inputs : Inputs) (leaves : ℕ) (schedule : List ℕ) (run : Outputs) (ran : LeftStore) → AreInputs inputs
    → IsLeftAs is_serial inputs leaves schedule run ran → IsRunAs is_serial inputs leaves run
run_as runs serial_runs false inputs leaves schedule run ran given left = runs inputs leaves schedule run given left.stepped
run_as runs serial_runs true inputs leaves schedule run ran given left = serial_runs inputs leaves schedule run given left.stepped

pub counts_of : (asked : Kind) (new : Core) (r : SteppedRun) → new.kind ≡ asked → r.ran.core ≡ new → r.totals.vertices ≡ length (vertices_of (newest_graph new)) → r.totals.edges ≡ edges_of new.kind (newest_graph new) → (r.totals.undo ≡ 0) × (r.totals.retired ≡ 0) → HasCounts asked r.ran.core.journal r.totals
counts_of asked new r kind ran vertices edges none = record {
  vertices = vertices ∙ ap (λ g. length (vertices_of g)) graphs_agree;
  edges = edges ∙ (λ i. edges_of (kind i) (graphs_agree i));
  undo = none.0;
  retired = none.1;
}
  where
    graphs_agree : newest_graph new ≡ graph_at asked r.ran.core.journal (length r.ran.core.journal)
    graphs_agree = λ i. graph_at (kind i) (sym ran i).journal (length (sym ran i).journal)

-- ---- what the code asks for

-- a load of files adds vertices and edges
pub load_adds : (ids : List ℕ) (edges : List Edge) → AllByRecursion IsAdd (load_of ids edges)
load_adds [] [] = tt
load_adds [] (edge ∷ edges) = (tt, load_adds [] edges)
load_adds (v ∷ ids) edges = (tt, load_adds ids edges)

-- and so may be loaded, where its inputs may
pub loadable : (inputs : Inputs) (core : Core) (ids : List ℕ) (edges : List Edge) → core.kind ≡ inputs.kind → inputs.load ≡ load_of ids edges → AreInputs inputs → IsLoad core (load_of ids edges)
loadable inputs core ids edges kind load given = record {
  adds = load_adds ids edges;
  allowed = subst (λ k. AllAllowed k empty_graph (load_of ids edges)) (sym kind) (subst (λ ws. AllAllowed inputs.kind empty_graph ws) load given.allowed);
  within = subst (λ ws. AllByRecursion IsWithinLimits ws) load given.within;
}

-- why the engine refused it
pub refused_load : (core : Core) (kind : Kind) (leaves : ℕ) (ids : List ℕ) (edges : List Edge) (refusal : LoadRefusal) → core.leaves ≡ leaves → core.kind ≡ kind
    → IsLoadRefusal core (load_of ids edges) refusal → IsRefusedLoad kind leaves ids edges refusal
refused_load core kind leaves ids edges (refusals.Full full) leaves_are kind_is (same, heavy) =
    subst (λ k. SPLIT_ROWS * leaves ≤ inserted k (load_of ids edges)) kind_is (subst (λ n. SPLIT_ROWS * n ≤ inserted core.kind (load_of ids edges)) (same ∙ leaves_are) heavy)
refused_load core kind leaves ids edges refusals.NoMemory leaves_are kind_is is = tt

-- a refusal that is handed on
pub handed_on : {T E : Type 0} (r : Result T E) (e : E) (P : E → Type 0) → IsErrAnd r (λ x. x ≡ e) → P e → IfErr r P
handed_on (Ok x) e P is here = absurd is
handed_on (Err x) e P is here = subst P (sym is) here

-- each item of a list, by its place
pub all_at : {X : Type 0} (P : X → Type 0) (xs : List X) → All P xs → (i : ℕ) (x : X) → slice_get xs i ≡ Some x → P x
all_at P [] all i x e = cc
all_at P (y ∷ ys) all zero x e = let same : y ≡ x = cc in subst P same (All-head P y ys all)
all_at P (y ∷ ys) all (suc i) x e = all_at P ys (All-tail P y ys all) i x e

pub edge_rows : (kind : Kind) (edges : List Edge) → inserted kind (map added_edge edges) ≡ arcs_of kind * length edges
edge_rows Directed [] = refl
edge_rows Undirected [] = refl
edge_rows Directed (edge ∷ edges) = sum_cons (inserted_by Directed) (added_edge edge) (map added_edge edges) ∙ omega (arith, edge_rows Directed edges)
edge_rows Undirected (edge ∷ edges) = sum_cons (inserted_by Undirected) (added_edge edge) (map added_edge edges) ∙ omega (arith, edge_rows Undirected edges)

pub load_rows : (kind : Kind) (ids : List ℕ) (edges : List Edge) (rows : ℕ) → inserted kind (map added_edge edges) ≡ rows → inserted kind (load_of ids edges) ≡ length ids + rows
load_rows kind [] edges rows is = omega (arith, is)
load_rows kind (v ∷ ids) edges rows is = sum_cons (inserted_by kind) (AddVertex v) (load_of ids edges) ∙ omega (arith, load_rows kind ids edges rows is)

few_fit : (kind : Kind) (ids : List ℕ) (edges : List Edge) → length ids ≤ MAX_LOAD_ROWS → (0 < length edges → length ids + arcs_of kind * length edges ≤ MAX_LOAD_ROWS) → Fits kind ids edges
few_fit Directed ids [] few all = omega (arith, load_rows Directed ids [] _ (edge_rows Directed []), few)
few_fit Undirected ids [] few all = omega (arith, load_rows Undirected ids [] _ (edge_rows Undirected []), few)
few_fit Directed ids (edge ∷ edges) few all = omega (arith, load_rows Directed ids (edge ∷ edges) _ (edge_rows Directed (edge ∷ edges)), all (omega arith))
few_fit Undirected ids (edge ∷ edges) few all = omega (arith, load_rows Undirected ids (edge ∷ edges) _ (edge_rows Undirected (edge ∷ edges)), all (omega arith))

-- accepted files have so few rows that the load always finds its places
pub files_fit : FilesAreWithinLimits → (request : RunRequest) (texts : Texts) (m : Meaning) → IsAccepted request texts m → (kind : Kind) → kind ≡ kind_of request → Fits kind m.ids m.edges
files_fit within request texts m accepted kind is =
    let limits = within texts.vertices texts.edges m.ids MAX_LOAD_ROWS (rules_of request m.ids) m.edges accepted.vertices refl accepted.edges in
    subst (λ k. Fits k m.ids m.edges) (sym is) (few_fit (kind_of request) m.ids m.edges limits.0 limits.1)
