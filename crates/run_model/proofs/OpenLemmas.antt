-- The open transactions of scripts by their names: which one changes with one script, and the list of them.
use Rattle.std.proofs.Common.{◌≡◌, ℕ, ◌+◌, ◌-◌, List, [], refl, sym, ◌∙◌, ap, subst, cond, arith, inl, inr}
use Rattle.std.specs.Prelude.{◌⊎◌, true, false, ◌==◌, nat_lt, Option, Some, None, slice_get, slice_set, unwrap_or}
use Rattle.std.proofs.lemmas.Bool.Decides.{nat_tests}
use Rattle.graph_model.specs.declared.journal.TxnName.{TxnName}
use Rattle.graph_model.specs.declared.write.Kind.{Kind}
use Rattle.graph_model.specs.declared.write.Write.{Write}
use Rattle.graph_model.specs.Conflict.{OpenTxn, same_name, meets}
use Rattle.graph_model.specs.ConflictLaws.{NoHolder}
use Rattle.graph_model.specs.Transactions.{Running, Changes, IsListed, MeetsNoHolder, writes_of_running}
use Rattle.graph_model.specs.Passes.{latest_name, of_latest, revised, state_in}
use Rattle.graph_model.proofs.LegalLemmas.{below_length}
use Rattle.graph_model.proofs.PassLemmas.{changes_latest, changes_next, is_listed, state_in-set}
use Rattle.graph_model.proofs.TestLemmas.{self_eq, name_eq}
use Rattle.run_model.specs.Run.{txn_name}
use Rattle.run_model.specs.Jobs.{JobState, new_job, running_of, open_txns}
use Rattle.run_model.specs.UnderWay.{open_by_name}

-- where what a name has stays the same, nothing changes
pub nothing_changes : (by : TxnName) (old new : TxnName → Option Running) (to : Option Running) → Changes by old new to → old by ≡ to → new ≡ old
nothing_changes by old new to changed same = λ i q. at q i
  where
    at : (q : TxnName) → new q ≡ old q
    at q = elim (same_name q by) as (λ t. same_name q by ≡ t → new q ≡ old q) [
      | true ↦ λ e. ap new (name_eq q by e) ∙ changed.here ∙ sym same ∙ ap old (sym (name_eq q by e))
      | false ↦ λ e. changed.else q e
    ] refl

-- where no listed transaction other than `by` clashes with a write, no open one does
pub no_open_meets : (kind : Kind) (txns : List OpenTxn) (running : TxnName → Option Running) (by : TxnName) (w : Write)
    → IsListed txns running → NoHolder kind txns by w → MeetsNoHolder kind running by w
no_open_meets kind txns running by w listed none q other = elim (running q) as (λ r. running q ≡ r → meets kind w (writes_of_running r) ≡ false) [
  | None ↦ λ e. refl
  | Some t ↦ λ e. let place = listed.complete q t e in none place.0 (record { by = q; writes = t.writes }) place.1 other
] refl

-- the list of the scripts' open transactions has exactly these
pub open_are_listed : (jobs : List JobState) → IsListed (open_txns jobs) (open_by_name jobs)
open_are_listed jobs = is_listed (λ (j : JobState). j.begun) running_of (new_job []) refl 1 jobs

module _ (jobs : List JobState) (k : ℕ) (j : JobState) (at : slice_get jobs k ≡ Some j) where
  abbrev passes : ℕ → JobState
  passes = state_in (new_job []) 1 jobs

  -- script number k + 1 is the one at place k
  state_here : passes (k + 1) ≡ j
  state_here =
      let past : nat_lt (k + 1) 1 ≡ false = grind (arith, nat_tests) in
      let place : k + 1 - 1 ≡ k = omega arith in
      ap (λ t. cond t (new_job []) (unwrap_or (slice_get jobs (k + 1 - 1)) (new_job []))) past
      ∙ ap (λ n. unwrap_or (slice_get jobs n) (new_job [])) place ∙ ap (λ x. unwrap_or x (new_job [])) at

  -- its latest transaction has what the script says
  pub open_here : open_by_name jobs (txn_name (k + 1) j.begun) ≡ running_of j
  open_here =
      ap (λ (x : JobState). cond (j.begun == x.begun) (running_of x) None) state_here
      ∙ ap (λ t. cond t (running_of j) None) (self_eq j.begun)

  module _ (j' : JobState) where
    set_is : of_latest (λ (j : JobState). j.begun) running_of None (revised passes (k + 1) j') ≡ open_by_name (slice_set jobs k j')
    set_is = λ i q. of_latest (λ (j : JobState). j.begun) running_of None (λ p. at_pass p i) q
      where
        at_pass : (p : ℕ) → revised passes (k + 1) j' p ≡ state_in (new_job []) 1 (slice_set jobs k j') p
        at_pass p =
            let place : k + 1 ≡ 1 + k = omega arith in
            ap (λ n. revised passes n j' p) place ∙ sym (state_in-set (new_job []) 1 jobs k j' (below_length jobs k j at) p)

    -- where its latest transaction goes on, or ends, that one changes alone
    pub latest_changes : (j'.begun ≡ j.begun) ⊎ (running_of j' ≡ None)
        → Changes (txn_name (k + 1) j.begun) (open_by_name jobs) (open_by_name (slice_set jobs k j')) (running_of j')
    latest_changes is =
        subst (λ by. Changes by (open_by_name jobs) (open_by_name (slice_set jobs k j')) (running_of j')) (ap (λ (x : JobState). txn_name (k + 1) x.begun) state_here)
        (subst (λ new. Changes (latest_name (λ (j : JobState). j.begun) passes (k + 1)) (open_by_name jobs) new (running_of j')) set_is
        (changes_latest (λ (j : JobState). j.begun) running_of passes (k + 1) j' (elim is as (λ _. (j'.begun ≡ (passes (k + 1)).begun) ⊎ (running_of j' ≡ None)) [
          | inl same ↦ inl (same ∙ ap (λ (x : JobState). x.begun) (sym state_here))
          | inr ended ↦ inr ended
        ])))

    -- where none is open, a begin changes the next one alone
    pub next_changes : running_of j ≡ None
        → Changes (txn_name (k + 1) j'.begun) (open_by_name jobs) (open_by_name (slice_set jobs k j')) (running_of j')
    next_changes closed =
        subst (λ new. Changes (txn_name (k + 1) j'.begun) (open_by_name jobs) new (running_of j')) set_is
        (changes_next (λ (j : JobState). j.begun) running_of passes (k + 1) j' (ap running_of state_here ∙ closed))

    -- where the script's transaction stays as it is, nothing changes
    pub open_unchanged : (j'.begun ≡ j.begun) ⊎ (running_of j' ≡ None) → running_of j ≡ running_of j' → open_by_name (slice_set jobs k j') ≡ open_by_name jobs
    open_unchanged is same = nothing_changes (txn_name (k + 1) j.begun) (open_by_name jobs) (open_by_name (slice_set jobs k j')) (running_of j') (latest_changes is) (open_here ∙ same)
