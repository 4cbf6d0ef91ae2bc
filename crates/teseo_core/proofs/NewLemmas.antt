-- The engine before its first transaction.
use Rattle.std.proofs.Common.{◌≡◌, ℕ, zero, suc, ◌≤◌, ◌<◌, List, [], ◌∷◌, length, replicate, refl, sym, ◌∙◌, ap, subst, cond, arith}
use Rattle.std.specs.Prelude.{Bool, true, false, ◌==◌, Option, Some, None, unwrap_or, slice_get}
use Rattle.std.proofs.lemmas.Bool.Decides.{nat_tests}
use Rattle.graph_model.specs.declared.journal.TxnName.{TxnName}
use Rattle.graph_model.specs.OwnerCalls.{PassState, Core, no_pass, running_of}
use Rattle.graph_model.specs.Transactions.{Running}
use Rattle.store_model.specs.Store.{IsPlainStore}
use Rattle.store_model.proofs.NewLemmas.{store_new}
use Rattle.txn_manager.specs.declared.config.Config.{Config}
use Rattle.txn_manager.specs.Config.{too_large}
use Rattle.txn_manager.specs.Manager.{Manager, no_txns, new_manager}
use Rattle.txn_manager.proofs.ViewLemmas.{state_in-get}
use Rattle.store_model.specs.Versions.{no_versions}
use Rattle.store_model.proofs.OwnerLemmas.{owner_moved}
use Rattle.leaf_rows.specs.LeafStore.Leaves.{Leaves, contents_of}
use Rattle.leaf_rows.specs.Loaded.{AreNone}
use Rattle.teseo_core.specs.Passes.{RoomyPass, new_pass}
use Rattle.teseo_core.specs.Keeping.{new_core, core_of, states_of, running_in, txns_in, IsKept}

-- each pass is a new one, and there is none besides
each_new : (n p : ℕ) (s : PassState) (P : PassState → Type 0) → P s → P no_pass → P (unwrap_or (slice_get (replicate n s) p) no_pass)
each_new zero p s P new none = none
each_new (suc n) zero s P new none = new
each_new (suc n) (suc p) s P new none = each_new n p s P new none

inside_new : (n p : ℕ) (s : PassState) → p < n → unwrap_or (slice_get (replicate n s) p) no_pass ≡ s
inside_new zero p s lt = absurd (omega (arith, lt))
inside_new (suc n) zero s lt = refl
inside_new (suc n) (suc p) s lt = inside_new n p s (omega (arith, lt))

length_new : {X : Type 0} (n : ℕ) (x : X) → length (replicate n x) ≡ n
length_new zero x = refl
length_new (suc n) x = ap suc (length_new n x)

none_begun : (n p : ℕ) → Rattle.std.proofs.Common.get_or (replicate n no_txns) p no_txns ≡ no_txns
none_begun zero p = refl
none_begun (suc n) zero = refl
none_begun (suc n) (suc p) = none_begun n p

module _ (config : Config) (spare : ℕ) (fits : too_large config ≡ false) (rows : Leaves) (empty : AreNone config.leaves rows) where
  abbrev core : Core
  core = new_core config

  abbrev manager : Manager
  manager = record (new_manager config.passes config.txns_per_pass) { spare = spare }

  nothing_runs : running_in core ≡ (λ (by : TxnName). None)
  nothing_runs = λ i by. closed by i
    where
      closed : (by : TxnName) → running_in core by ≡ None
      closed by = each_new config.passes by.job (new_pass config.txns_per_pass) (λ s. cond (by.number == s.begun) (running_of s) None ≡ None) (none (by.number == 0)) (none (by.number == 0))
        where
          none : (t : Bool) → ◌≡◌ {A = Option Running} (cond t None None) None
          none true = refl
          none false = refl

  pub new_kept : IsKept core manager rows
  new_kept = record {
    horizon = 0;
    store = subst (λ (r : TxnName → Option Running). IsPlainStore config.kind [] r 0 (contents_of rows)) (sym nothing_runs)
        (owner_moved config.kind [] (λ by. None) 0 (λ k. no_versions) (store_new config.kind) (contents_of rows) empty.contents);
    chosen = let count = length_new config.passes (new_pass config.txns_per_pass) in let some : 0 < config.passes = grind (arith, nat_tests) in omega (arith, count, some);
    tied = record {
      journal = refl;
      count = length_new config.passes no_txns ∙ sym (length_new config.passes (new_pass config.txns_per_pass));
      each = λ p. state_in-get no_txns (replicate config.passes no_txns) p ∙ none_begun config.passes p
          ∙ each_new config.passes p (new_pass config.txns_per_pass) (λ s. no_txns ≡ txns_in s) refl refl;
      allowed = λ p lt. ap (λ (s : PassState). s.allowed) (inside_new config.passes p (new_pass config.txns_per_pass) (omega (arith, lt, length_new config.passes (new_pass config.txns_per_pass))));
    };
    used = λ p. each_new config.passes p (new_pass config.txns_per_pass) (λ s. s.begun ≤ s.allowed) (omega arith) (omega arith);
    made = λ p. each_new config.passes p (new_pass config.txns_per_pass) (λ s. (start : ℕ) → s.start ≡ Some start → 0 < length s.made) (λ start e. cc) (λ start e. cc);
    weight_is = let light = empty.weight in omega (arith, light);
    limit = empty.limit;
    some = grind (arith, nat_tests);
    few = grind (arith, nat_tests);
  }

  -- the fields of a new engine
  pub fields_kept : (m : Manager) (passes : List RoomyPass) → m ≡ manager → states_of passes ≡ replicate config.passes (new_pass config.txns_per_pass) → IsKept (core_of config.kind config.leaves m passes 0 0) m rows
  fields_kept m passes is_m is_passes = subst (λ (n : Manager). IsKept (core_of config.kind config.leaves n passes 0 0) n rows) (sym is_m)
      (subst (λ (ss : List PassState). IsKept (record core { passes = ss }) manager rows) (sym is_passes) new_kept)
