-- The store of one owner through each kind of change: what is laid are the writes of open transactions.
use Rattle.std.proofs.Common.{◌≡◌, ℕ, ◌<◌, List, [], ◌∷◌, ◌++◌, length, refl, sym, ◌∙◌, ap, cond}
use Rattle.std.specs.Prelude.{Bool, true, false, ◌&&◌, ◌||◌, Option, Some, None}
use Rattle.std.proofs.lemmas.List.{append-nil}
use Rattle.std.proofs.Math.Seq.{append_snoc}
use Rattle.graph_model.specs.declared.write.Kind.{Kind}
use Rattle.graph_model.specs.declared.write.Write.{Write}
use Rattle.graph_model.specs.declared.row.Key.{Key}
use Rattle.graph_model.specs.declared.journal.Commit.{Commit}
use Rattle.graph_model.specs.declared.journal.TxnName.{TxnName}
use Rattle.graph_model.specs.Conflict.{same_name}
use Rattle.graph_model.specs.ConflictLaws.{NoLater}
use Rattle.graph_model.specs.Effects.{touches_at, any_touches}
use Rattle.graph_model.specs.History.{view}
use Rattle.graph_model.specs.Refused.{refused, IsWithinLimits}
use Rattle.graph_model.specs.Transactions.{Running, Changes, commit_of, writes_of_running, own_of, HasNotCommitted, MeetsNoHolder}
use Rattle.graph_model.proofs.TestLemmas.{name_self, name_eq}
use Rattle.graph_model.proofs.ClashLemmas.{apart_rows}
use Rattle.graph_model.proofs.TransactionLemmas.{own_here, own_else}
use Rattle.store_model.specs.declared.versions.Versions.{Versions}
use Rattle.store_model.specs.Layers.{row_key, after_write, undone}
use Rattle.store_model.specs.Store.{touching_of, IsStore, IsPlainStore}
use Rattle.store_model.proofs.MeetLemmas.{row_key-written}
use Rattle.store_model.proofs.RowLemmas.{list_any-snoc}
use Rattle.store_model.proofs.StoreLemmas.{store_same, store_begun, store_stopped, store_written, store_committed, store_undone}

-- ---- an abort: the writes that a transaction has laid are taken back, the newest first

-- one transaction's writes and touches cut down
abbrev pub own_with : TxnName → List Write → (TxnName → List Write) → TxnName → List Write
own_with by ws own q = cond (same_name q by) ws (own q)

abbrev pub touching_less : TxnName → List Write → (TxnName → Key → Bool) → TxnName → Key → Bool
touching_less by rest touching q k = cond (same_name q by && any_touches rest k) false (touching q k)

own_with-here : (by : TxnName) (ws : List Write) (own : TxnName → List Write) → own_with by ws own by ≡ ws
own_with-here by ws own = ap (λ t. cond t ws (own by)) (name_self by)

less_more : (s a b t : Bool) → cond (s && (a || b)) false t ≡ cond (s && a) false (cond (s && b) false t)
less_more true true b t = refl
less_more true false b t = refl
less_more false a b t = refl

less_none : (s t : Bool) → cond (s && false) false t ≡ t
less_none true t = refl
less_none false t = refl

module _ (kind : Kind) (journal : List Commit) (running : TxnName → Option Running) (own : TxnName → List Write) (touching : TxnName → Key → Bool) (horizon : ℕ) (contents : Key → Versions) (is : IsStore kind journal running own touching horizon contents) (by : TxnName) (closed : running by ≡ None) where
  -- UNDO OF ALL: of one that can't commit the writes from some place on
  pub store_all_undone : (front rest : List Write) → own by ≡ front ++ rest
      → IsStore kind journal running (own_with by front own) (touching_less by rest touching) horizon (λ k. undone kind by rest k (contents k))
  store_all_undone front [] e = store_same kind journal running own touching horizon contents is (own_with by front own) (touching_less by [] touching) contents
      (λ q. elim (same_name q by) as (λ s. same_name q by ≡ s → cond s front (own q) ≡ own q) [
        | true ↦ λ h. sym (ap own (name_eq q by h) ∙ e ∙ append-nil front)
        | false ↦ λ h. refl
      ] refl) (λ q k. less_none (same_name q by) (touching q k)) (λ k. refl)
  store_all_undone front (w ∷ ws) e =
      store_undone kind journal running (own_with by (front ++ w ∷ []) own) (touching_less by ws touching) horizon (λ k. undone kind by ws k (contents k))
      (store_all_undone (front ++ w ∷ []) ws (e ∙ sym (append_snoc front w ws)))
      by closed w (own_with by front own) (touching_less by (w ∷ ws) touching) (λ k. undone kind by (w ∷ ws) k (contents k))
      (record {
        mine = own_with-here by (front ++ w ∷ []) own ∙ ap (λ us. us ++ w ∷ []) (sym (own_with-here by front own));
        others = λ q h. ap (λ t. cond t front (own q)) h ∙ sym (ap (λ t. cond t (front ++ w ∷ []) (own q)) h);
        touches = λ q k. less_more (same_name q by) (touches_at w k) (any_touches ws k) (touching q k);
        rows = λ k. refl;
      })

-- ---- one owner

both : (m : Bool) → cond m false m ≡ false
both true = refl
both false = refl

module _ (kind : Kind) (journal : List Commit) (running : TxnName → Option Running) (horizon : ℕ) (contents : Key → Versions) (is : IsPlainStore kind journal running horizon contents) where
  -- MOVE: rows change their places
  pub owner_moved : (contents' : Key → Versions) → ((k : Key) → contents' k ≡ contents k) → IsPlainStore kind journal running horizon contents'
  owner_moved contents' same = store_same kind journal running (own_of running) (touching_of running) horizon contents is (own_of running) (touching_of running) contents' (λ q. refl) (λ q k. refl) same

  -- BEGIN: a transaction that is not open, under a name that has no commit
  pub owner_begun : (by : TxnName) (running' : TxnName → Option Running)
      → Changes by running running' (Some (record { start = length journal; writes = [] }))
      → running by ≡ None → HasNotCommitted journal by
      → IsPlainStore kind journal running' horizon contents
  owner_begun by running' ch closed unnamed =
      let same : (q : TxnName) → own_of running' q ≡ own_of running q = (λ q. elim (same_name q by) as (λ s. same_name q by ≡ s → own_of running' q ≡ own_of running q) [
        | true ↦ λ e. own_here by running running' _ ch q e ∙ ap writes_of_running (sym (ap running (name_eq q by e) ∙ closed))
        | false ↦ λ e. own_else by running running' _ ch q e
      ] refl) in
      store_same kind journal running' (own_of running) (touching_of running) horizon contents
      (store_begun kind journal running (own_of running) (touching_of running) horizon contents is by running' ch (ap writes_of_running closed) (λ k. ap (λ r. any_touches (writes_of_running r) k) closed) unnamed)
      (own_of running') (touching_of running') contents same (λ q k. ap (λ ws. any_touches ws k) (same q)) (λ k. refl)

  module _ (by : TxnName) (t : Running) (there : running by ≡ Some t) where
    -- WRITE: of whatever kind, one that its view allows and that meets nobody
    pub owner_written : (w : Write) (running' : TxnName → Option Running) (contents' : Key → Versions)
        → Changes by running running' (Some (record { start = t.start; writes = t.writes ++ w ∷ [] }))
        → refused (view kind journal t.start t.writes) w ≡ None → IsWithinLimits w
        → MeetsNoHolder kind running by w → NoLater kind journal t.start w
        → ((k : Key) → contents' k ≡ after_write kind by w k (contents k))
        → IsPlainStore kind journal running' horizon contents'
    owner_written w running' contents' ch allowed within no_holder no_later written =
        store_written kind journal running (own_of running) (touching_of running) horizon contents is by running' t there (own_of running') (touching_of running')
        w contents' ch allowed within
        (record { clear = λ q away. apart_rows kind w (own_of running q) (row_key w) (no_holder q away) (row_key-written kind w); holder = no_holder; later = no_later })
        (record { mine = mine; others = own_else by running running' _ ch; touches = touches; rows = written })
      where
        mine : own_of running' by ≡ own_of running by ++ w ∷ []
        mine = ap writes_of_running ch.here ∙ ap (λ r. writes_of_running r ++ w ∷ []) (sym there)

        touches : (q : TxnName) (k : Key) → touching_of running' q k ≡ ((same_name q by && touches_at w k) || touching_of running q k)
        touches q k = elim (same_name q by) as (λ s. same_name q by ≡ s → touching_of running' q k ≡ ((s && touches_at w k) || touching_of running q k)) [
          | true ↦ λ e. let me = name_eq q by e in
              ap (λ x. touching_of running' x k) me ∙ ap (λ ws. any_touches ws k) mine ∙ list_any-snoc (λ x. touches_at x k) (own_of running by) w
              ∙ ap (λ x. touches_at w k || touching_of running x k) (sym me)
          | false ↦ λ e. ap (λ ws. any_touches ws k) (own_else by running running' _ ch q e)
        ] refl

    -- COMMIT: of a transaction that has written something
    pub owner_committed : (running' : TxnName → Option Running) → Changes by running running' None → 0 < length t.writes
        → IsPlainStore kind (journal ++ commit_of journal by t ∷ []) running' horizon contents
    owner_committed running' ch wrote =
        store_committed kind journal running (own_of running) (touching_of running) horizon contents is by running' t there (own_of running') (touching_of running') ch wrote
        (record {
          mine = ap writes_of_running ch.here;
          others = own_else by running running' _ ch;
          touches = λ q k. elim (same_name q by) as (λ s. same_name q by ≡ s → touching_of running' q k ≡ cond s false (touching_of running q k)) [
            | true ↦ λ e. ap (λ ws. any_touches ws k) (own_here by running running' _ ch q e)
            | false ↦ λ e. ap (λ ws. any_touches ws k) (own_else by running running' _ ch q e)
          ] refl;
        })

    -- ABORT: all writes of a transaction are taken back; one without writes just ends
    pub owner_aborted : (running' : TxnName → Option Running) (contents' : Key → Versions) → Changes by running running' None
        → ((k : Key) → contents' k ≡ undone kind by t.writes k (contents k))
        → IsPlainStore kind journal running' horizon contents'
    owner_aborted running' contents' ch gone =
        store_same kind journal running' (own_with by [] (own_of running)) (touching_less by t.writes (touching_of running)) horizon (λ k. undone kind by t.writes k (contents k))
        (store_all_undone kind journal running' (own_of running) (touching_of running) horizon contents
        (store_stopped kind journal running (own_of running) (touching_of running) horizon contents is by running' ch) by ch.here [] t.writes (ap writes_of_running there))
        (own_of running') (touching_of running') contents' same_own same_touching gone
      where
        same_own : (q : TxnName) → own_of running' q ≡ own_with by [] (own_of running) q
        same_own q = elim (same_name q by) as (λ s. same_name q by ≡ s → own_of running' q ≡ cond s [] (own_of running q)) [
          | true ↦ λ e. own_here by running running' _ ch q e
          | false ↦ λ e. own_else by running running' _ ch q e
        ] refl

        same_touching : (q : TxnName) (k : Key) → touching_of running' q k ≡ touching_less by t.writes (touching_of running) q k
        same_touching q k = elim (same_name q by) as (λ s. same_name q by ≡ s → touching_of running' q k ≡ cond (s && any_touches t.writes k) false (touching_of running q k)) [
          | true ↦ λ e. ap (λ ws. any_touches ws k) (own_here by running running' _ ch q e)
              ∙ sym (ap (cond (any_touches t.writes k) false) (ap (λ x. touching_of running x k) (name_eq q by e) ∙ ap (λ r. any_touches (writes_of_running r) k) there) ∙ both (any_touches t.writes k))
          | false ↦ λ e. ap (λ ws. any_touches ws k) (own_else by running running' _ ch q e)
        ] refl
