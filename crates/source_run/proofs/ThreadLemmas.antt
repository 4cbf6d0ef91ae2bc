-- What a run on threads asks for, and what it gives, in the words of the sources.
use Rattle.std.proofs.Common.{◌≡◌, ℕ, suc, ◌+◌, ◌*◌, ◌≤◌, List, length, refl, sym, ◌∙◌, ap, subst, arith}
use Rattle.std.specs.Prelude.{Result, Ok, Err, IfOk, IfErr}
use Rattle.graph_model.specs.declared.journal.Commit.{Commit}
use Rattle.graph_model.specs.declared.limits.TheConstants.{SPLIT_ROWS}
use Rattle.graph_model.specs.declared.load.LoadRefusal.{LoadRefusal}
use Rattle.graph_model.specs.declared.load.LoadRefusal.TheVariants as refusals
use Rattle.graph_model.specs.declared.write.Kind.{Kind}
use Rattle.graph_model.specs.declared.write.Kind.TheVariants.{Directed, Undirected}
use Rattle.graph_model.specs.declared.write.Write.{Write}
use Rattle.graph_model.specs.Graph.{Graph}
use Rattle.graph_model.specs.History.{graph_at}
use Rattle.graph_model.specs.Inserted.{inserted}
use Rattle.graphalytics_io.specs.declared.edges.Edge.{Edge}
use Rattle.graphalytics_io.specs.Load.{load_of}
use Rattle.run_model.specs.declared.command.Command.{Command}
use Rattle.run_model.specs.Answering.{edges_in}
use Rattle.run_model.specs.Inputs.{Inputs, AreInputs}
use Rattle.txn_manager.specs.declared.config.Config.{Config}
use Rattle.txn_manager.specs.declared.config.Totals.{Totals}
use Rattle.threaded_run.specs.SharedStore.Totals.{AreTotals, edges_of}
use Rattle.threaded_run.specs.declared.run.ThreadedRun.{ThreadedRun}
use Rattle.threaded_run.specs.Running.{CanRun, IsStopped, inputs_on}
use Rattle.source_run.specs.Running.{HasCounts, IsConfig, IsRefusedLoad, MayBegin, with_readers}
use Rattle.source_run.proofs.RunLemmas.{load_adds}

-- ---- the store

-- what a run on threads asks of it: a pass for each script and one for the load, and maybe more
pub record IsConfigFor (kind : Kind) (leaves : ℕ) (scripts : List (List Command)) (config : Config) : Type 0 where
  pub kind_is : config.kind ≡ kind
  pub leaves_are : config.leaves ≡ leaves
  pub passes : length scripts + 1 ≤ config.passes
  pub begins : MayBegin scripts config.txns_per_pass

pub read_beside : (kind : Kind) (leaves : ℕ) (given scripts : List (List Command)) (threads : ℕ) (base config : Config) → IsConfig kind leaves given base → given ≡ scripts
    → config ≡ with_readers threads base → IsConfigFor kind leaves scripts config
read_beside kind leaves given scripts threads base config is same with =
    subst (λ (u : List (List Command) × Config). IsConfigFor kind leaves u.0 u.1) (λ i. (same i, sym with i)) (record {
      kind_is = is.kind_is;
      leaves_are = is.leaves_are;
      passes = (let passes = is.passes in omega (arith, passes));
      begins = is.begins;
    })

-- ---- what runs on it

module _ (kind : Kind) (leaves : ℕ) (ids : List ℕ) (edges : List Edge) (scripts : List (List Command)) (config : Config) (load : List Write) (made : load ≡ load_of ids edges)
    (is : IsConfigFor kind leaves scripts config) where
  abbrev inputs : Inputs
  inputs = record { kind = kind; load = load_of ids edges; scripts = scripts }

  pub same_inputs : inputs_on config load scripts ≡ inputs
  same_inputs = λ i. record { kind = is.kind_is i; load = made i; scripts = scripts }

  pub can_run : AreInputs inputs → CanRun (inputs_on config load scripts) config
  can_run given = subst (λ x. CanRun x config) (sym same_inputs) (record {
    inputs_are = given;
    load = record { adds = load_adds ids edges; allowed = given.allowed; within = given.within };
    kind = is.kind_is;
    passes = is.passes;
    begins = is.begins;
  })

  -- what holds of the run on the store holds of that of the sources
  pub of_sources : (P : Inputs → ℕ → Type 0) → P (inputs_on config load scripts) config.leaves → P inputs leaves
  of_sources P holds = subst (λ (u : Inputs × ℕ). P u.0 u.1) (λ i. (same_inputs i, is.leaves_are i)) holds

  pub refused : (refusal : LoadRefusal) → IsStopped config load refusal → IsRefusedLoad kind leaves ids edges refusal
  refused (refusals.Full full) stopped =
      subst (λ (u : ℕ × Kind × List Write). SPLIT_ROWS * u.0 ≤ inserted u.1 u.2) (λ i. (is.leaves_are i, is.kind_is i, made i)) stopped.1
  refused refusals.NoMemory stopped = tt

same_edges : (kind : Kind) (g : Graph) → edges_of kind g ≡ edges_in kind g
same_edges Directed g = refl
same_edges Undirected g = refl

pub counts_on : (kind asked : Kind) (journal : List Commit) (totals : Totals) → kind ≡ asked → AreTotals kind (graph_at kind journal (length journal)) totals → HasCounts asked journal totals
counts_on kind asked journal totals same are = subst (λ k. HasCounts k journal totals) same (record {
  vertices = are.vertices;
  edges = are.edges ∙ same_edges kind (graph_at kind journal (length journal));
  undo = are.undo;
  retired = are.retired;
})

-- ---- of what the call answers

module _ (kind : Kind) (leaves : ℕ) (ids : List ℕ) (edges : List Edge) (scripts : List (List Command)) (config : Config) (load : List Write) (made : load ≡ load_of ids edges)
    (is : IsConfigFor kind leaves scripts config) where
  pub all_refused : (result : Result ThreadedRun LoadRefusal) → IfErr result (IsStopped config load) → IfErr result (IsRefusedLoad kind leaves ids edges)
  all_refused (Ok r) stopped = tt
  all_refused (Err refusal) stopped = refused kind leaves ids edges scripts config load made is refusal stopped

  pub all_counted : (result : Result ThreadedRun LoadRefusal)
      → IfOk result (λ r. AreTotals config.kind (graph_at config.kind r.closed.journal (length r.closed.journal)) r.closed.totals)
      → IfOk result (λ r. HasCounts kind r.closed.journal r.closed.totals)
  all_counted (Ok r) are = counts_on config.kind kind r.closed.journal r.closed.totals is.kind_is are
  all_counted (Err refusal) are = tt
