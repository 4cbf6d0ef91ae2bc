-- Pruning: which rows may be cut, and what is left where nobody is open.
use Rattle.std.proofs.Common.{◌≡◌, ℕ, ◌+◌, ◌-◌, ◌<◌, ◌≤◌, List, [], ◌∷◌, length, drop, refl, sym, ◌∙◌, ap, arith, inl, inr}
use Rattle.std.specs.Prelude.{◌⊎◌, Bool, true, false, ◌||◌, slice_get, Option, Some}
use Rattle.std.proofs.lemmas.Bool.{or_left, true≢false}
use Rattle.std.proofs.lemmas.List.{drop_all}
use Rattle.graph_model.specs.declared.write.Kind.{Kind}
use Rattle.graph_model.specs.declared.write.Write.{Write}
use Rattle.graph_model.specs.declared.row.Key.{Key}
use Rattle.graph_model.specs.declared.journal.Commit.{Commit}
use Rattle.graph_model.specs.declared.journal.TxnName.{TxnName}
use Rattle.graph_model.specs.Conflict.{same_name}
use Rattle.graph_model.specs.History.{graph_at}
use Rattle.graph_model.specs.Rows.{value_at}
use Rattle.graph_model.specs.Transactions.{Running, stamp_in, reached, has_name}
use Rattle.graph_model.proofs.TestLemmas.{name_self}
use Rattle.graph_model.proofs.StampLemmas.{reached_at, unreached_at}
use Rattle.graph_model.proofs.TransactionLemmas.{horizon_keeps}
use Rattle.store_model.specs.declared.versions.Versions.{Versions}
use Rattle.store_model.specs.Versions.{IsPruned, is_settled, prune}
use Rattle.store_model.specs.Layers.{touched_in, layered, layered_all}
use Rattle.store_model.specs.Store.{IsStore}
use Rattle.store_model.proofs.ValueLemmas.{no_stamp}
use Rattle.store_model.proofs.SettledRowLemmas.{pairs_pruned, oldest_pruned, touches_pruned}

-- a row that is as it was, or is pruned as a whole
pub whole_pruned : (stamps : TxnName → Option ℕ) (at : ℕ) (old new : Versions) → (new ≡ old) ⊎ (new ≡ prune stamps at old) → IsPruned stamps at old new
whole_pruned stamps at old new is = elim is as (λ _. IsPruned stamps at old new) [
  | inl e ↦ (inl (ap (λ (vs : Versions). vs.pairs) e, ap (λ (vs : Versions). vs.oldest) e), inl (ap (λ (vs : Versions). vs.touches) e))
  | inr e ↦ (inr (ap (λ (vs : Versions). vs.pairs) e, ap (λ (vs : Versions). vs.oldest) e), inr (ap (λ (vs : Versions). vs.touches) e))
]

-- a list that has no name is empty
no_names : (names : List TxnName) → ((by : TxnName) → has_name names by ≡ false) → names ≡ []
no_names [] none = refl
no_names (n ∷ names) none = absurd (true≢false (sym (or_left (same_name n n) _ (name_self n)) ∙ none n))

module _ (kind : Kind) (journal : List Commit) (running : TxnName → Option Running) (own : TxnName → List Write) (touching : TxnName → Key → Bool) (horizon : ℕ) (contents : Key → Versions) (is : IsStore kind journal running own touching horizon contents) where
  -- ---- a row pruned at a stamp is cut there

  module _ (at : ℕ) where
    settled_before : (i : ℕ) (c : Commit) → slice_get journal i ≡ Some c → i < at → is_settled (stamp_in journal) at c.by ≡ true
    settled_before i c here lt = reached_at kind journal is.transactions.legal i c at here lt

    unsettled_behind : (i : ℕ) (c : Commit) → slice_get journal i ≡ Some c → at ≤ i → is_settled (stamp_in journal) at c.by ≡ false
    unsettled_behind i c here past = unreached_at kind journal is.transactions.legal i c at here past

    unsettled_own : (q : TxnName) → (own q ≡ []) ⊎ (is_settled (stamp_in journal) at q ≡ false)
    unsettled_own q = elim (no_stamp kind journal running own touching horizon contents is q) as (λ _. (own q ≡ []) ⊎ (is_settled (stamp_in journal) at q ≡ false)) [
      | inl none ↦ inl none.0
      | inr none ↦ inr (ap (λ x. reached x at) none)
    ]

    unsettled_touch : (k : Key) (q : TxnName) → touching q k ≡ true → is_settled (stamp_in journal) at q ≡ false
    unsettled_touch k q marked = elim (no_stamp kind journal running own touching horizon contents is q) as (λ _. is_settled (stamp_in journal) at q ≡ false) [
      | inl none ↦ absurd (true≢false (sym marked ∙ none.1 k))
      | inr none ↦ ap (λ x. reached x at) none
    ]

    module _ (k : Key) where
      pairs_cut : (prune (stamp_in journal) at (contents k)).pairs ≡ layered kind k (is.rows k).keeper (own (is.rows k).keeper) (layered_all kind k (drop ((is.rows k).cut + (at - (is.rows k).cut)) journal) [])
      pairs_cut = let r = is.rows k in
          pairs_pruned kind journal own touching k r.cut r.since r.keeper (contents k) r.row (stamp_in journal) at settled_before unsettled_behind unsettled_own (unsettled_touch k)

      oldest_cut : (prune (stamp_in journal) at (contents k)).oldest ≡ value_at (graph_at kind journal ((is.rows k).cut + (at - (is.rows k).cut))) k
      oldest_cut = let r = is.rows k in
          oldest_pruned kind journal own touching k r.cut r.since r.keeper (contents k) r.row (stamp_in journal) at settled_before unsettled_behind unsettled_own (unsettled_touch k)

      touches_cut : (q : TxnName) → has_name (prune (stamp_in journal) at (contents k)).touches q ≡ (touching q k || touched_in (drop ((is.rows k).since + (at - (is.rows k).since)) journal) q k)
      touches_cut = let r = is.rows k in
          touches_pruned kind journal own touching k r.cut r.since r.keeper (contents k) r.row (stamp_in journal) at settled_before unsettled_behind unsettled_own (unsettled_touch k)

  -- PRUNE: some of the rows, at a stamp that no open transaction's start is below
  pub store_pruned : (at horizon' : ℕ) (contents' : Key → Versions) → at ≤ horizon' → horizon ≤ horizon' → horizon' ≤ length journal
      → ((by : TxnName) (t : Running) → running by ≡ Some t → horizon' ≤ t.start)
      → ((k : Key) → IsPruned (stamp_in journal) at (contents k) (contents' k))
      → IsStore kind journal running own touching horizon' contents'
  store_pruned at horizon' contents' le more most pins each = record {
    transactions = horizon_keeps kind journal running horizon horizon' is.transactions most pins;
    rows = λ k. record {
      cut = (cuts k).0;
      since = (marks k).0;
      keeper = (is.rows k).keeper;
      below = (cuts k).1;
      below_since = (marks k).1;
      row = record { only = (is.rows k).row.only; pairs = (cuts k).2; oldest = (cuts k).3; touched = (marks k).2 };
    };
    laid = is.laid;
    marked = is.marked;
    settled = is.settled;
  }
    where
      cuts : (k : Key) → (cut : ℕ) × (cut ≤ horizon') × ((contents' k).pairs ≡ layered kind k (is.rows k).keeper (own (is.rows k).keeper) (layered_all kind k (drop cut journal) [])) × ((contents' k).oldest ≡ value_at (graph_at kind journal cut) k)
      cuts k = let r = is.rows k in elim (each k).0 as (λ _. (cut : ℕ) × (cut ≤ horizon') × ((contents' k).pairs ≡ layered kind k (is.rows k).keeper (own (is.rows k).keeper) (layered_all kind k (drop cut journal) [])) × ((contents' k).oldest ≡ value_at (graph_at kind journal cut) k)) [
        | inl same ↦ (r.cut, omega (arith, r.below, more), same.0 ∙ r.row.pairs, same.1 ∙ r.row.oldest)
        | inr pruned ↦ (r.cut + (at - r.cut), omega (arith, r.below, more, le), pruned.0 ∙ pairs_cut at k, pruned.1 ∙ oldest_cut at k)
      ]

      marks : (k : Key) → (since : ℕ) × (since ≤ horizon') × ((q : TxnName) → has_name (contents' k).touches q ≡ (touching q k || touched_in (drop since journal) q k))
      marks k = let r = is.rows k in elim (each k).1 as (λ _. (since : ℕ) × (since ≤ horizon') × ((q : TxnName) → has_name (contents' k).touches q ≡ (touching q k || touched_in (drop since journal) q k))) [
        | inl same ↦ (r.since, omega (arith, r.below_since, more), λ q. ap (λ ts. has_name ts q) same ∙ r.row.touched q)
        | inr pruned ↦ (r.since + (at - r.since), omega (arith, r.below_since, more, le), λ q. ap (λ ts. has_name ts q) pruned ∙ touches_cut at k q)
      ]

  -- SETTLED: where nothing is laid, a row that is pruned at the newest stamp is the newest graph's value alone
  pub row_settled : ((by : TxnName) → own by ≡ []) → ((by : TxnName) (k : Key) → touching by k ≡ false)
      → (k : Key) → prune (stamp_in journal) (length journal) (contents k) ≡ record { pairs = []; oldest = value_at (graph_at kind journal (length journal)) k; touches = [] }
  row_settled idle unmarked k =
      let now = length journal in
      let r = is.rows k in
      let to_end : r.cut + (now - r.cut) ≡ now = omega (arith, r.below, is.transactions.behind) in
      let since_end : r.since + (now - r.since) ≡ now = omega (arith, r.below_since, is.transactions.behind) in
      let none : drop now journal ≡ [] = drop_all now journal (omega arith) in
      let pairs : (prune (stamp_in journal) now (contents k)).pairs ≡ [] =
      pairs_cut now k ∙ (λ i. layered kind k r.keeper (idle r.keeper i) (layered_all kind k (drop (to_end i) journal) [])) ∙ ap (λ cs. layered_all kind k cs []) none in
      let oldest = oldest_cut now k ∙ ap (λ n. value_at (graph_at kind journal n) k) to_end in
      let touches : (prune (stamp_in journal) now (contents k)).touches ≡ [] =
      no_names _ (λ q. touches_cut now k q ∙ (λ i. unmarked q k i || touched_in (drop (since_end i) journal) q k) ∙ ap (λ cs. touched_in cs q k) none) in
      λ i. record { pairs = pairs i; oldest = oldest i; touches = touches i }
