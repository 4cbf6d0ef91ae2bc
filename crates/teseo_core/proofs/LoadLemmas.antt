-- The first transaction of a new engine makes all writes of a load and commits them, and their rows are settled.
use Rattle.std.proofs.Common.{◌≡◌, ℕ, zero, suc, ◌<◌, ◌≤◌, List, [], ◌∷◌, ◌++◌, length, refl, sym, ◌∙◌, ap, subst, cond, arith, inr}
use Rattle.std.specs.Prelude.{true, ◌==◌, ◌&&◌, Option, Some, None, IsSome, Result, Ok, Err, IsErrAnd, IfErr, unwrap_or, slice_get}
use Rattle.std.specs.List.{AllByRecursion}
use Rattle.std.proofs.lemmas.List.{append-nil, length-set}
use Rattle.graph_model.specs.declared.write.Kind.{Kind}
use Rattle.graph_model.specs.declared.write.Write.{Write}
use Rattle.graph_model.specs.declared.row.Key.{Key}
use Rattle.graph_model.specs.declared.journal.Commit.{Commit}
use Rattle.graph_model.specs.declared.journal.TxnName.{TxnName}
use Rattle.graph_model.specs.Graph.{Graph, apply_all, empty_graph}
use Rattle.graph_model.specs.History.{graph_at}
use Rattle.graph_model.specs.Inserted.{inserted}
use Rattle.graph_model.specs.Loading.{HasBegunNothing, IsNew, IsLoad, IsLoadRefusal, journal_of, loaded}
use Rattle.graph_model.specs.OwnerCalls.{PassState, Core, no_pass, current, with_current, name_here}
use Rattle.graph_model.specs.Refused.{AllAllowed, IsWithinLimits}
use Rattle.graph_model.specs.Transactions.{Running, Changes, own_of, stamp_in, commit_of}
use Rattle.graph_model.proofs.TestLemmas.{self_eq}
use Rattle.store_model.specs.declared.versions.Versions.{Versions}
use Rattle.store_model.specs.Layers.{laid}
use Rattle.store_model.specs.Store.{alone, IsPlainStore, touching_of}
use Rattle.store_model.specs.Versions.{no_versions}
use Rattle.store_model.proofs.LoadLemmas.{owner_loaded}
use Rattle.store_model.proofs.NewLemmas.{store_new, value_of_empty}
use Rattle.store_model.proofs.OwnerLemmas.{owner_moved, owner_committed}
use Rattle.store_model.proofs.PruneLemmas.{store_pruned, row_settled, whole_pruned}
use Rattle.graph_model.specs.declared.load.LoadRefusal.{LoadRefusal}
use Rattle.graph_model.specs.declared.load.LoadRefusal.TheVariants as refusals
use Rattle.txn_manager.specs.Manager.{Manager, PassTxns, txns_of, open_start, ended}
use Rattle.leaf_rows.specs.Loaded.{AreLoaded, settled_in}
use Rattle.leaf_rows.specs.LeafStore.Leaves.{Leaves, contents_of}
use Rattle.teseo_core.specs.Passes.{with_load, with_end}
use Rattle.teseo_core.specs.Keeping.{AreTied, IsKept, NoneOpen}
use Rattle.teseo_core.specs.Loads.{loading, journal_behind, IsTooMuch}
use Rattle.teseo_core.proofs.CountLemmas.{part}
use Rattle.teseo_core.proofs.OpenLemmas.{tied_set}
use Rattle.teseo_core.proofs.KeepLemmas.{by_pass, counted_set, none_runs}

abbrev first : TxnName
first = record { job = 0; number = 1 }

-- no transaction is open
abbrev none_open : TxnName → Option Running
none_open = λ by. None

-- ---- the store behind a load

alone_here : (load : List Write) → alone first load first ≡ Some (record { start = 0; writes = load })
alone_here load = let a = self_eq 0 in let b = self_eq 1 in λ i. cond (a i && b i) (Some (record { start = 0; writes = load })) None

alone_ends : (load : List Write) → Changes first (alone first load) none_open None
alone_ends load = record {
  here = refl;
  else = λ q other. sym (ap (λ t. cond t (Some (record { start = 0; writes = load })) None) other);
}

module _ (kind : Kind) (load : List Write) (allowed : AllAllowed kind empty_graph load) (within : AllByRecursion IsWithinLimits load) (some : 0 < length load) where
  abbrev commits : List Commit
  commits = commit_of [] first (record { start = 0; writes = load }) ∷ []

  abbrev laid_at : Key → Versions
  laid_at k = laid kind first load k no_versions

  after_commit : IsPlainStore kind commits none_open 0 laid_at
  after_commit = owner_committed kind [] (alone first load) 0 laid_at (owner_loaded kind first load allowed within) first (record { start = 0; writes = load }) (alone_here load) none_open (alone_ends load) some

  graph_is : graph_at kind commits 1 ≡ apply_all kind empty_graph load
  graph_is = ap (apply_all kind empty_graph) (append-nil load)

  settled_store : (contents : Key → Versions) → ((k : Key) → contents k ≡ settled_in (apply_all kind empty_graph load) k) → IsPlainStore kind commits none_open 1 contents
  settled_store contents settled = store_pruned kind commits none_open (own_of none_open) (touching_of none_open) 0 laid_at after_commit 1 1 contents (omega arith) (omega arith) (omega arith)
      (λ by t runs. let no : ◌≡◌ {A = Option Running} None (Some t) = runs in cc)
      (λ k. whole_pruned (stamp_in commits) 1 (laid_at k) (contents k) (inr (settled k ∙ sym (row k))))
    where
      row : (k : Key) → Rattle.store_model.specs.Versions.prune (stamp_in commits) 1 (laid_at k) ≡ settled_in (apply_all kind empty_graph load) k
      row k = row_settled kind commits none_open (own_of none_open) (touching_of none_open) 0 laid_at after_commit (λ by. refl) (λ by q. refl) k
          ∙ ap (λ (g : Graph). settled_in g k) graph_is

-- a load's rows, settled, hold its journal
pub loaded_store : (kind : Kind) (load : List Write) → AllAllowed kind empty_graph load → AllByRecursion IsWithinLimits load
    → (contents : Key → Versions) → ((k : Key) → contents k ≡ settled_in (apply_all kind empty_graph load) k)
    → IsPlainStore kind (journal_of load) none_open (length (journal_of load)) contents
loaded_store kind [] allowed within contents settled =
    owner_moved kind [] none_open 0 (λ k. no_versions) (store_new kind) contents (λ k. settled k ∙ (λ i. record { pairs = []; oldest = value_of_empty k i; touches = [] }))
loaded_store kind (w ∷ ws) allowed within contents settled = settled_store kind (w ∷ ws) allowed within (omega arith) contents settled

-- ---- a new engine, by its parts

module _ (kind : Kind) (leaves served : ℕ) (head : PassState) (others : List PassState) (each : AllByRecursion HasBegunNothing (head ∷ others)) (load : List Write) where
  abbrev fresh : Core
  fresh = record { kind = kind; leaves = leaves; journal = []; passes = head ∷ others; selected = 0; served = served }

  -- the pass behind the load
  abbrev after : PassState
  after = with_end (with_load (current (loading fresh [])) load)

  fresh_loaded : with_current (loading fresh []) after ≡ with_current fresh (record (current fresh) { begun = 1; made = load ∷ [] })
  fresh_loaded = λ i. record fresh { passes = record head { start = sym each.0.start i; own = sym each.0.own i; begun = 1; made = load ∷ [] } ∷ others }

  closed : (states : List PassState) → AllByRecursion HasBegunNothing states → (p : ℕ) → (unwrap_or (slice_get states p) no_pass).start ≡ None
  closed [] none p = refl
  closed (s ∷ states) none zero = none.0.start
  closed (s ∷ states) none (suc p) = closed states none.1 p

  fresh_closed : NoneOpen (with_current (loading fresh []) after)
  fresh_closed zero = refl
  fresh_closed (suc p) = closed others each.1 p

-- ---- what the engine keeps through a load

module _ (new : Core) (is_new : IsNew new) (load : List Write) (begun : Core) (at : begun ≡ loading new []) where
  shape : begun ≡ loading (fresh new.kind new.leaves new.served is_new.first is_new.others is_new.each load) []
  shape = at ∙ (λ i. loading (record new { journal = is_new.journal i; passes = is_new.passes i; selected = is_new.selected i }) [])

  abbrev ended_load : PassState
  ended_load = with_end (with_load (current begun) load)

  -- what holds of any new engine, by its parts
  by_parts : (P : Core → Type 0) → P (loading (fresh new.kind new.leaves new.served is_new.first is_new.others is_new.each load) []) → P begun
  by_parts P is = subst P (sym shape) is

  name_is : name_here begun ≡ first
  name_is = by_parts (λ c. name_here c ≡ first) refl

  started : (current begun).start ≡ Some 0
  started = by_parts (λ c. (current c).start ≡ Some 0) refl

  pub made_none : (current begun).made ≡ [] ∷ []
  made_none = by_parts (λ c. (current c).made ≡ [] ∷ []) refl

  journal_none : begun.journal ≡ []
  journal_none = by_parts (λ c. c.journal ≡ []) refl

  all_closed : NoneOpen (with_current begun ended_load)
  all_closed = by_parts (λ c. NoneOpen (with_current c (with_end (with_load (current c) load)))) (fresh_closed new.kind new.leaves new.served is_new.first is_new.others is_new.each load)

  -- the core behind the load
  pub core_loaded : record (with_current begun ended_load) { journal = journal_of load } ≡ loaded new load
  core_loaded = by_parts (λ c. record (with_current c (with_end (with_load (current c) load))) { journal = journal_of load } ≡ loaded new load)
      ((λ i. record (fresh_loaded new.kind new.leaves new.served is_new.first is_new.others is_new.each load i) { journal = journal_of load })
      ∙ (λ i. loaded (record new { journal = sym is_new.journal i; passes = sym is_new.passes i; selected = sym is_new.selected i }) load))

  module _ (m : Manager) (rows : Leaves) (is : IsKept begun m rows) where
    -- the manager has the transaction open
    opened : open_start m (name_here begun) ≡ Some 0
    opened =
        let self : ((current begun).begun == (current begun).begun) ≡ true = self_eq (current begun).begun in
        ap (λ (t : PassTxns). cond ((current begun).begun == t.begun) t.start None) (is.tied.each begun.selected) ∙ ap (λ t. cond t (current begun).start None) self ∙ started

    pub is_open : IsSome (open_start m (name_here begun))
    is_open = subst IsSome (sym opened) (some_is 0)
      where
        some_is : (n : ℕ) → IsSome {T = ℕ} (Some n)
        some_is n = cc

    -- the manager's part, where the journal is the load's
    tied_loaded : (m' : Manager) → m'.passes ≡ (ended m (name_here begun)).passes → m'.allowed ≡ m.allowed → m'.journal ≡ journal_of load → AreTied (record (with_current begun ended_load) { journal = journal_of load }) m'
    tied_loaded m' passes allowed journal = record {
      journal = journal;
      count = ap length passes ∙ ends.count;
      each = λ p. ap (λ ps. Rattle.graph_model.specs.Passes.state_in Rattle.txn_manager.specs.Manager.no_txns 0 ps p) passes ∙ ends.each p;
      allowed = λ p lt. ends.allowed p lt ∙ sym allowed;
    }
      where
        ends : AreTied (with_current begun ended_load) (ended m (name_here begun))
        ends = tied_set begun is.chosen ended_load m is.tied (record { begun = (txns_of m begun.selected).begun; start = None }) (λ i. record { begun = (is.tied.each begun.selected i).begun; start = None }) refl

    pub kept_loaded : IsLoad new load → (m' : Manager) (rows' : Leaves) → m'.passes ≡ (ended m (name_here begun)).passes → m'.allowed ≡ m.allowed → m'.journal ≡ journal_of load
        → AreLoaded begun.leaves (apply_all begun.kind empty_graph load) (inserted begun.kind load) rows'
        → IsKept (record (with_current begun ended_load) { journal = journal_of load }) m' rows'
    kept_loaded is_load m' rows' passes allowed journal has = record {
      horizon = length (journal_of load);
      store = subst (λ (r : TxnName → Option Running). IsPlainStore begun.kind (journal_of load) r (length (journal_of load)) (contents_of rows')) (λ i by. sym (none_runs (with_current begun ended_load) all_closed by) i)
          (loaded_store begun.kind load kind_allowed is_load.within (contents_of rows') has.settled);
      chosen = omega (arith, is.chosen, length-set begun.passes begun.selected ended_load);
      tied = tied_loaded m' passes allowed journal;
      used = by_pass begun is.chosen ended_load (λ s. s.begun ≤ s.allowed) (is.used begun.selected) is.used;
      made = λ p start e. let no : ◌≡◌ {A = Option ℕ} None (Some start) = sym (all_closed p) ∙ e in cc;
      weight_is = let most = has.weight in let all = counted_set begun is.chosen ended_load in omega (arith, most, all, whole, nothing);
      limit = has.limit;
      some = is.some;
      few = is.few;
    }
      where
        kind_allowed : AllAllowed begun.kind empty_graph load
        kind_allowed = by_parts (λ c. AllAllowed c.kind empty_graph load) is_load.allowed

        whole : part begun.kind ended_load.made ≡ inserted begun.kind load
        whole = ap (inserted begun.kind) (append-nil load)

        nothing : part begun.kind (current begun).made ≡ 0
        nothing = ap (part begun.kind) made_none

    -- and the journal is the load's
    pub journal_loaded : journal_behind m (name_here begun) load ≡ journal_of load
    journal_loaded = by_load load
      where
        by_load : (ws : List Write) → journal_behind m (name_here begun) ws ≡ journal_of ws
        by_load [] = is.tied.journal ∙ journal_none
        by_load (w ∷ ws) =
            λ i. (is.tied.journal ∙ journal_none) i ++ commit_of ((is.tied.journal ∙ journal_none) i) (name_is i) (record { start = ap (λ x. unwrap_or x 0) opened i; writes = w ∷ ws }) ∷ []

-- why a load was refused
pub too_much : (core : Core) (load : List Write) (refusal : LoadRefusal) → IsTooMuch core.leaves (inserted core.kind load) refusal → IsLoadRefusal core load refusal
too_much core load (refusals.Full full) is = is
too_much core load refusals.NoMemory is = is

-- a refusal that is handed on
pub err_that : {T E : Type 0} (r : Result T E) (e : E) (P : E → Type 0) → IsErrAnd r (λ x. x ≡ e) → P e → IfErr r P
err_that (Ok x) e P is here = absurd is
err_that (Err x) e P is here = subst P (sym is) here
