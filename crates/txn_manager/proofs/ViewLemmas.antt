-- What a manager has, by the histories of its passes.
use Rattle.std.proofs.Common.{◌≡◌, ℕ, ◌-◌, ◌<◌, ◌≤◌, List, [], ◌∷◌, map, length, get_or, refl, sym, ◌∙◌, ap, cond, arith, inl, inr}
use Rattle.std.specs.Prelude.{true, false, ◌==◌, nat_lt, Option, Some, None, IsSome, option_map, slice_get, unwrap_or}
use Rattle.std.specs.List.{cons_option, filter_map}
use Rattle.std.proofs.lemmas.Bool.{cases_lt}
use Rattle.std.proofs.lemmas.Bool.Decides.{nat_tests}
use Rattle.std.proofs.lemmas.List.{length-map, get_or_default, get_or_past}
use Rattle.std.proofs.lemmas.Option.{slice_get-map, unwrap_or-slice_get}
use Rattle.items.specs.Room.{WithRoom}
use Rattle.graph_model.specs.declared.journal.Commit.{Commit}
use Rattle.graph_model.specs.declared.journal.TxnName.{TxnName}
use Rattle.graph_model.specs.Passes.{state_in}
use Rattle.graph_model.proofs.TestLemmas.{self_eq, eq_of}
use Rattle.txn_manager.specs.declared.history.PassHistory.{PassHistory}
use Rattle.txn_manager.specs.Manager.{PassTxns, Manager, txns_of, open_start, starts_of}
use Rattle.txn_manager.specs.Histories.{no_history, history_of, txns_in, manager_of, start_at}

-- ---- the passes by their numbers

state_in-map : {S T : Type 0} (f : S → T) (other : S) (states : List S) (p : ℕ) → state_in (f other) 0 (map f states) p ≡ f (state_in other 0 states p)
state_in-map {S = S} f other states p = elim (nat_lt p 0) as (λ t. cond t (f other) (unwrap_or (slice_get (map f states) (p - 0)) (f other)) ≡ f (cond t other (unwrap_or (slice_get states (p - 0)) other))) [
  | true ↦ refl
  | false ↦ ap (λ x. unwrap_or x (f other)) (slice_get-map f states (p - 0)) ∙ by_place (slice_get states (p - 0))
]
  where
    by_place : (x : Option S) → unwrap_or (option_map f x) (f other) ≡ f (unwrap_or x other)
    by_place None = refl
    by_place (Some x) = refl

-- the transactions of a pass are those of its history
pub txns_of-kept : (journal : WithRoom Commit) (hs : List PassHistory) (allowed p : ℕ) → txns_of (manager_of journal hs allowed) p ≡ txns_in (history_of hs p)
txns_of-kept journal hs allowed p = state_in-map txns_in no_history hs p

-- how many transactions a pass has begun, by its history
pub begun-kept : (journal : WithRoom Commit) (hs : List PassHistory) (allowed : ℕ) (m : Manager) (p : ℕ) (h : PassHistory) → manager_of journal hs allowed ≡ m → history_of hs p ≡ h
    → (txns_of m p).begun ≡ length h.stamps
begun-kept journal hs allowed m p h is at =
    ap (λ (m : Manager). (txns_of m p).begun) (sym is) ∙ ap (λ (t : PassTxns). t.begun) (txns_of-kept journal hs allowed p ∙ ap txns_in at)

-- there is a history for each pass
pub inside_of : (journal : WithRoom Commit) (hs : List PassHistory) (allowed : ℕ) (m : Manager) (p : ℕ) → manager_of journal hs allowed ≡ m → p < length m.passes → p < length hs
inside_of journal hs allowed m p is inside =
    let size : length (map txns_in hs) ≡ length hs = length-map hs txns_in in
    let same : length (map txns_in hs) ≡ length m.passes = ap (λ (m : Manager). length m.passes) is in
    omega arith

-- what a list of all passes has for one
pub state_in-get : {S : Type 0} (other : S) (states : List S) (p : ℕ) → state_in other 0 states p ≡ get_or states p other
state_in-get other states p =
    let past : nat_lt p 0 ≡ false = grind (arith, nat_tests) in
    let place : p - 0 ≡ p = omega arith in
    (λ i. cond (past i) other (unwrap_or (slice_get states (place i)) other)) ∙ unwrap_or-slice_get states p other

-- the history that an index lends
pub history_at : (hs : List PassHistory) (p : ℕ) (h : PassHistory) → p < length hs → h ≡ get_or hs p h → history_of hs p ≡ h
history_at hs p h inside is = state_in-get no_history hs p ∙ get_or_default hs p no_history h inside ∙ sym is

-- past the last pass there is none
pub history_past : (hs : List PassHistory) (p : ℕ) → length hs ≤ p → history_of hs p ≡ no_history
history_past hs p le = state_in-get no_history hs p ∙ get_or_past hs p no_history le

-- the oldest start is found in the histories
pub starts-kept : (hs : List PassHistory) → starts_of (map txns_in hs) ≡ filter_map (λ (h : PassHistory). h.start) hs
starts-kept [] = refl
starts-kept (h ∷ hs) = ap (cons_option h.start) (starts-kept hs)

-- ---- open transactions

-- an open transaction is the latest of its pass
pub record IsOpenAt (hs : List PassHistory) (by : TxnName) (start : ℕ) : Type 0 where
  pub inside : by.job < length hs
  pub begun_at : (history_of hs by.job).start ≡ Some start
  pub latest : by.number ≡ length (history_of hs by.job).stamps

pub some_of : (x : Option ℕ) → IsSome x → (start : ℕ) × (x ≡ Some start)
some_of None h = cc
some_of (Some start) h = (start, refl)

-- what a number's test gives is the latest transaction's
pub by_test : (number begun : ℕ) (start : Option ℕ) (s : ℕ) → cond (number == begun) start None ≡ Some s → (start ≡ Some s) × (number ≡ begun)
by_test number begun start s e = elim (number == begun) as (λ t. (number == begun) ≡ t → cond t start None ≡ Some s → (start ≡ Some s) × (number ≡ begun)) [
  | true ↦ λ f g. (g, eq_of number begun f)
  | false ↦ λ f g. cc
] refl e

module _ (journal : WithRoom Commit) (hs : List PassHistory) (allowed : ℕ) where
  abbrev manager : Manager
  manager = manager_of journal hs allowed

  pub open_start-kept : (by : TxnName) → open_start manager by ≡ start_at (history_of hs by.job) by.number
  open_start-kept by = ap (λ (p : PassTxns). cond (by.number == p.begun) p.start None) (txns_of-kept journal hs allowed by.job)

  pub open_at : (by : TxnName) (start : ℕ) → open_start manager by ≡ Some start → IsOpenAt hs by start
  open_at by start e =
      let r = by_test by.number _ _ start (sym (open_start-kept by) ∙ e) in
      record { inside = within r.0; begun_at = r.0; latest = r.1 }
    where
      nowhere : history_of hs by.job ≡ no_history → (history_of hs by.job).start ≡ Some start → ⊥
      nowhere none is = let no : ◌≡◌ {A = Option ℕ} None (Some start) = sym (ap (λ (h : PassHistory). h.start) none) ∙ is in cc

      within : (history_of hs by.job).start ≡ Some start → by.job < length hs
      within is = elim (cases_lt by.job (length hs)) as (λ _. by.job < length hs) [ inl inside ↦ inside | inr past ↦ absurd (nowhere (history_past hs by.job past) is) ]

  pub open_of : (m : Manager) (by : TxnName) → manager ≡ m → IsSome (open_start m by) → (start : ℕ) × IsOpenAt hs by start
  open_of m by is some =
      let s = some_of (open_start m by) some in
      (s.0, open_at by s.0 (ap (λ (m : Manager). open_start m by) is ∙ s.1))

  -- and the latest of a pass is open where the pass has a start
  pub open_start_is : (by : TxnName) (start : ℕ) → IsOpenAt hs by start → open_start manager by ≡ Some start
  open_start_is by start at = open_start-kept by
      ∙ ap (start_at (history_of hs by.job)) at.latest
      ∙ ap (λ t. cond t (history_of hs by.job).start None) (self_eq (length (history_of hs by.job).stamps)) ∙ at.begun_at
