-- Open transactions with their writes stay the manager's while it is called.
use Rattle.std.proofs.Common.{◌≡◌, ℕ, zero, suc, ◌+◌, ◌<◌, [], ◌∷◌, ◌++◌, length, replicate, get_or, refl, sym, ◌∙◌, ap, subst, cond, zero-add, inl, inr}
use Rattle.std.specs.Prelude.{Bool, true, false, ◌==◌, Option, Some, None, is_some, option_map, unwrap_or}
use Rattle.std.proofs.lemmas.Bool.{cases_lt}
use Rattle.std.proofs.lemmas.List.{get_or_past}
use Rattle.graph_model.specs.declared.write.Kind.{Kind}
use Rattle.graph_model.specs.declared.journal.TxnName.{TxnName}
use Rattle.graph_model.specs.Conflict.{same_name}
use Rattle.graph_model.specs.Transactions.{Running, Changes, commit_of, AreTransactions}
use Rattle.graph_model.specs.Passes.{of_latest, revised}
use Rattle.graph_model.proofs.PassLemmas.{state_in-set, put_next, put_ended}
use Rattle.graph_model.proofs.TestLemmas.{name_eq}
use Rattle.graph_model.proofs.TransactionLemmas.{commit_keeps}
use Rattle.txn_manager.specs.Manager.{PassTxns, Manager, no_txns, new_manager, txns_of, open_start, next_name, with_txns, running_with, opened, ended, committed}
use Rattle.txn_manager.specs.ManagerLaws.{AreOpenIn}
use Rattle.txn_manager.proofs.ViewLemmas.{state_in-get, by_test}

-- ---- at first

nothing_at : (n p : ℕ) → get_or (replicate n no_txns) p no_txns ≡ no_txns
nothing_at zero p = refl
nothing_at (suc n) zero = refl
nothing_at (suc n) (suc p) = nothing_at n p

pub none_at_first : (passes allowed : ℕ) → AreOpenIn (new_manager passes allowed) (λ by. None)
none_at_first passes allowed by =
    let none = state_in-get no_txns (replicate passes no_txns) by.job ∙ nothing_at passes by.job in
    sym (ap (λ (p : PassTxns). cond (by.number == p.begun) p.start None) none ∙ off (by.number == 0))
  where
    off : (t : Bool) → ◌≡◌ {A = Option ℕ} (cond t None None) None
    off true = refl
    off false = refl

-- ---- one start changes

-- where the starts change at one name as the open transactions do, these stay the manager's
follows : (old new : Manager) (running running' : TxnName → Option Running) (by : TxnName) (to : Option Running) → AreOpenIn old running → Changes by running running' to
    → ((q : TxnName) → open_start new q ≡ cond (same_name q by) (option_map (λ t. t.start) to) (open_start old q)) → AreOpenIn new running'
follows old new running running' by to are ch each q = elim (same_name q by) as (λ s. same_name q by ≡ s → option_map (λ t. t.start) (running' q) ≡ open_start new q) [
  | true ↦ λ e. ap (option_map (λ t. t.start)) (ap running' (name_eq q by e) ∙ ch.here) ∙ sym (each q ∙ ap (λ s. cond s (option_map (λ t. t.start) to) (open_start old q)) e)
  | false ↦ λ e. ap (option_map (λ t. t.start)) (ch.else q e) ∙ are q ∙ sym (each q ∙ ap (λ s. cond s (option_map (λ t. t.start) to) (open_start old q)) e)
] refl

-- the passes, where one has another state
txns_of-set : (m : Manager) (p : ℕ) (t : PassTxns) → p < length m.passes → txns_of (with_txns m p t) ≡ revised (txns_of m) p t
txns_of-set m p t inside = λ i q. (state_in-set no_txns 0 m.passes p t inside q ∙ ap (λ n. cond (q == n) t (txns_of m q)) (zero-add p)) i

abbrev begun_of : PassTxns → ℕ
begun_of p = p.begun

abbrev start_of : PassTxns → Option ℕ
start_of p = p.start

pub opened_is_open : (m : Manager) (running : TxnName → Option Running) → AreOpenIn m running → (pass : ℕ) → pass < length m.passes → (txns_of m pass).start ≡ None
    → (running' : TxnName → Option Running) (t : Running) → t.start ≡ length m.journal → Changes (next_name m pass) running running' (Some t) → AreOpenIn (opened m pass) running'
opened_is_open m running are pass inside closed running' t at ch = follows m (opened m pass) running running' (next_name m pass) (Some t) are ch (λ q.
    ap (λ txns. of_latest begun_of start_of None txns q) (txns_of-set m pass begun inside)
    ∙ put_next begun_of start_of None (txns_of m) pass begun closed q
    ∙ ap (λ s. cond (same_name q (next_name m pass)) (Some s) (open_start m q)) (sym at))
  where
    begun : PassTxns
    begun = record { begun = (txns_of m pass).begun + 1; start = Some (length m.journal) }

pub open_is_running : (m : Manager) (running : TxnName → Option Running) → AreOpenIn m running → (by : TxnName) → is_some (open_start m by) ≡ is_some (running by)
open_is_running m running are by = ap is_some (sym (are by)) ∙ mapped (running by)
  where
    mapped : (x : Option Running) → is_some (option_map (λ (t : Running). t.start) x) ≡ is_some x
    mapped None = refl
    mapped (Some t) = refl

module _ (m : Manager) (running : TxnName → Option Running) (are : AreOpenIn m running) (by : TxnName) (t : Running) (there : running by ≡ Some t) where
  -- the manager has its start
  start_is : open_start m by ≡ Some t.start
  start_is = sym (are by) ∙ ap (option_map (λ t. t.start)) there

  -- and it is the latest of its pass
  is_latest : ((txns_of m by.job).start ≡ Some t.start) × (by.number ≡ (txns_of m by.job).begun)
  is_latest = by_test by.number (txns_of m by.job).begun (txns_of m by.job).start t.start start_is

  inside : by.job < length m.passes
  inside = elim (cases_lt by.job (length m.passes)) as (λ _. by.job < length m.passes) [
    | inl lt ↦ lt
    | inr past ↦
        let none : txns_of m by.job ≡ no_txns = state_in-get no_txns m.passes by.job ∙ get_or_past m.passes by.job no_txns past in
        let no : ◌≡◌ {A = Option ℕ} None (Some t.start) = sym (ap start_of none) ∙ is_latest.0 in
        cc
  ]

  pub written_is_open : (running' : TxnName → Option Running) (u : Running) → u.start ≡ t.start → Changes by running running' (Some u) → AreOpenIn m running'
  written_is_open running' u same ch = follows m m running running' by (Some u) are ch (λ q. elim (same_name q by) as (λ s. same_name q by ≡ s → open_start m q ≡ cond s (Some u.start) (open_start m q)) [
    | true ↦ λ e. ap (open_start m) (name_eq q by e) ∙ start_is ∙ ap Some (sym same)
    | false ↦ λ e. refl
  ] refl)

  pub ended_is_gone : (running' : TxnName → Option Running) → Changes by running running' None → AreOpenIn (ended m by) running'
  ended_is_gone running' ch = follows m (ended m by) running running' by None are ch (λ q.
      ap (λ txns. of_latest begun_of start_of None txns q) (txns_of-set m by.job closed inside)
      ∙ put_ended begun_of start_of None (txns_of m) by.job closed refl q
      ∙ ap (λ (name : TxnName). cond (same_name q name) None (open_start m q)) (λ i. record { job = by.job; number = sym is_latest.1 i }))
    where
      closed : PassTxns
      closed = record { begun = (txns_of m by.job).begun; start = None }

  -- it is the transaction that a commit puts into the journal
  running_with_is : running_with m by t.writes ≡ t
  running_with_is = λ i. record { start = unwrap_or (start_is i) 0; writes = t.writes }

  pub checked_commit : (kind : Kind) (horizon : ℕ) → AreTransactions kind m.journal running horizon → 0 < length t.writes
      → (running' : TxnName → Option Running) → Changes by running running' None → AreTransactions kind (committed m by t.writes).journal running' horizon
  checked_commit kind horizon checked wrote running' ch =
      subst (λ u. AreTransactions kind (m.journal ++ commit_of m.journal by u ∷ []) running' horizon) (sym running_with_is)
      (commit_keeps kind m.journal running horizon checked by running' t there ch wrote)
