-- The horizon: at or below each start, within the journal, and as great as that allows.
use Rattle.std.proofs.Common.{◌≡◌, ℕ, zero, suc, ◌≤◌, List, [], ◌∷◌, length, get_or, refl, sym, ◌∙◌, ap, subst, min, fold, arith}
use Rattle.std.specs.Prelude.{Option, Some, None, IfSome, option_map, unwrap_or}
use Rattle.std.specs.List.{AllByRecursion, reduce, cons_option}
use Rattle.std.proofs.Math.Nat.{le-min, min-le_left, min-le_right}
use Rattle.graph_model.specs.declared.journal.TxnName.{TxnName}
use Rattle.graph_model.specs.Transactions.{Running}
use Rattle.graph_model.proofs.PassLemmas.{latest_here}
use Rattle.graph_model.proofs.PlaceLemmas.{some_eq}
use Rattle.txn_manager.specs.Manager.{PassTxns, Manager, no_txns, txns_of, open_start, starts_of, horizon_of, IsManaged}
use Rattle.txn_manager.specs.ManagerLaws.{AreOpenIn}
use Rattle.txn_manager.proofs.ViewLemmas.{state_in-get, by_test}

-- ---- the least of a list

-- what is at most the least is at most each
below_each : (low a : ℕ) (xs : List ℕ) → low ≤ fold min a xs → (low ≤ a) × AllByRecursion (λ x. low ≤ x) xs
below_each low a [] le = (le, tt)
below_each low a (x ∷ xs) le =
    let r = below_each low (min a x) xs le in
    let first : low ≤ min a x = r.0 in
    (omega (arith, min-le_left a x), (omega (arith, min-le_right a x), r.1))

-- and the other way round
below_least : (low a : ℕ) (xs : List ℕ) → low ≤ a → AllByRecursion (λ x. low ≤ x) xs → low ≤ fold min a xs
below_least low a [] le all = le
below_least low a (x ∷ xs) le all = below_least low (min a x) xs (le-min le all.0) all.1

least_below_each : (xs : List ℕ) (clock : ℕ) → AllByRecursion (λ x. unwrap_or (reduce min xs) clock ≤ x) xs
least_below_each [] clock = tt
least_below_each (x ∷ xs) clock = below_each (fold min x xs) x xs (omega arith)

below_least_or : (low clock : ℕ) (xs : List ℕ) → low ≤ clock → AllByRecursion (λ x. low ≤ x) xs → low ≤ unwrap_or (reduce min xs) clock
below_least_or low clock [] le all = le
below_least_or low clock (x ∷ xs) le all = below_least low x xs all.0 all.1

least_within : (clock : ℕ) (xs : List ℕ) → AllByRecursion (λ x. x ≤ clock) xs → unwrap_or (reduce min xs) clock ≤ clock
least_within clock [] all = omega arith
least_within clock (x ∷ xs) all =
    let r = below_each (fold min x xs) x xs (omega arith) in
    let first : fold min x xs ≤ x = r.0 in
    let head : x ≤ clock = all.0 in
    omega arith

-- ---- the starts of passes

at_start : (P : ℕ → Type 0) (passes : List PassTxns) → AllByRecursion P (starts_of passes) → (j s : ℕ) → (get_or passes j no_txns).start ≡ Some s → P s
at_start P [] all j s e = cc
at_start P (p ∷ passes) all zero s e = by_start p.start e all
  where
    by_start : (x : Option ℕ) → x ≡ Some s → AllByRecursion P (cons_option x (starts_of passes)) → P s
    by_start None e all = cc
    by_start (Some y) e all = subst P (some_eq y s e) all.0
at_start P (p ∷ passes) all (suc j) s e = at_start P passes (by_start p.start all) j s e
  where
    by_start : (x : Option ℕ) → AllByRecursion P (cons_option x (starts_of passes)) → AllByRecursion P (starts_of passes)
    by_start None all = all
    by_start (Some y) all = all.1

from_starts : (P : ℕ → Type 0) (passes : List PassTxns) → ((j s : ℕ) → (get_or passes j no_txns).start ≡ Some s → P s) → AllByRecursion P (starts_of passes)
from_starts P [] each = tt
from_starts P (p ∷ passes) each = by_start p.start refl (from_starts P passes (λ j. each (suc j)))
  where
    by_start : (x : Option ℕ) → p.start ≡ x → AllByRecursion P (starts_of passes) → AllByRecursion P (cons_option x (starts_of passes))
    by_start None e all = all
    by_start (Some y) e all = (each 0 y e, all)

-- ---- the horizon

module _ (m : Manager) where
  -- each start is an open transaction's
  start_is_open : (j s : ℕ) → (get_or m.passes j no_txns).start ≡ Some s → open_start m (record { job = j; number = (txns_of m j).begun }) ≡ Some s
  start_is_open j s e = latest_here (λ (p : PassTxns). p.begun) (λ (p : PassTxns). p.start) None (txns_of m) j
      ∙ ap (λ (p : PassTxns). p.start) (state_in-get no_txns m.passes j) ∙ e

  pub horizon_is_within : IsManaged m → horizon_of m ≤ length m.journal
  horizon_is_within managed = least_within (length m.journal) (starts_of m.passes) (from_starts _ m.passes (λ j s e.
      within (open_start m (record { job = j; number = (txns_of m j).begun })) s (start_is_open j s e) (managed.started (record { job = j; number = (txns_of m j).begun }))))
    where
      within : (x : Option ℕ) (s : ℕ) → x ≡ Some s → IfSome x (λ start. start ≤ length m.journal) → s ≤ length m.journal
      within None s e le = cc
      within (Some y) s e le = subst (λ n. n ≤ length m.journal) (some_eq y s e) le

  module _ (running : TxnName → Option Running) (are : AreOpenIn m running) where
    pub horizon_is_below : (by : TxnName) (t : Running) → running by ≡ Some t → horizon_of m ≤ t.start
    horizon_is_below by t there =
        let start = sym (are by) ∙ ap (option_map (λ (t : Running). t.start)) there in
        let is = by_test by.number (txns_of m by.job).begun (txns_of m by.job).start t.start start in
        at_start (λ s. horizon_of m ≤ s) m.passes (least_below_each (starts_of m.passes) (length m.journal)) by.job t.start
        (ap (λ (p : PassTxns). p.start) (sym (state_in-get no_txns m.passes by.job)) ∙ is.0)

    pub horizon_is_greatest : (stamp : ℕ) → stamp ≤ length m.journal → ((by : TxnName) (t : Running) → running by ≡ Some t → stamp ≤ t.start) → stamp ≤ horizon_of m
    horizon_is_greatest stamp le each = below_least_or stamp (length m.journal) (starts_of m.passes) le (from_starts _ m.passes (λ j s e.
        by_running (record { job = j; number = (txns_of m j).begun }) s (running (record { job = j; number = (txns_of m j).begun })) refl
        (are (record { job = j; number = (txns_of m j).begun }) ∙ start_is_open j s e)))
      where
        by_running : (by : TxnName) (s : ℕ) (x : Option Running) → running by ≡ x → option_map (λ t. t.start) x ≡ Some s → stamp ≤ s
        by_running by s None at e = cc
        by_running by s (Some t) at e = subst (λ n. stamp ≤ n) (some_eq t.start s e) (each by t at)
