-- What a row's versions give a snapshot.
use Rattle.std.proofs.Common.{◌≡◌, ℕ, ◌+◌, ◌-◌, ◌<◌, ◌≤◌, List, [], length, take, drop, refl, sym, ◌∙◌, ap, arith, inl, inr}
use Rattle.std.specs.Prelude.{◌⊎◌, Bool, true, false, Option, Some, None, slice_get}
use Rattle.std.proofs.lemmas.Bool.{or_left, or_right, or_from, false_from_ne_true, true≢false}
use Rattle.graph_model.specs.declared.write.Kind.{Kind}
use Rattle.graph_model.specs.declared.write.Write.{Write}
use Rattle.graph_model.specs.declared.row.Key.{Key}
use Rattle.graph_model.specs.declared.journal.Commit.{Commit}
use Rattle.graph_model.specs.declared.journal.TxnName.{TxnName}
use Rattle.graph_model.specs.Conflict.{same_name}
use Rattle.graph_model.specs.Effects.{value_after}
use Rattle.graph_model.specs.History.{graph_at, view, writes_of}
use Rattle.graph_model.specs.Rows.{value_at}
use Rattle.graph_model.specs.Transactions.{Running, stamp_in, reached, HasNotCommitted}
use Rattle.graph_model.proofs.TestLemmas.{name_self, name_eq}
use Rattle.graph_model.proofs.LegalLemmas.{below_length}
use Rattle.graph_model.proofs.PlaceLemmas.{get_drop, get_take, drop_cut}
use Rattle.graph_model.proofs.EffectLemmas.{value_at-apply_all, value_after-none}
use Rattle.graph_model.proofs.HistoryLemmas.{graph_at-more}
use Rattle.graph_model.proofs.StampLemmas.{stamped_or_none, reached_at, unreached_at}
use Rattle.store_model.specs.declared.version.Version.{Version}
use Rattle.store_model.specs.declared.versions.Versions.{Versions}
use Rattle.store_model.specs.Versions.{first_seen, sees, read}
use Rattle.store_model.specs.Layers.{layered, layered_all}
use Rattle.store_model.specs.Store.{IsRow, IsStore}
use Rattle.store_model.proofs.LayerLemmas.{seen_layer, unseen_layer, seen_layers, unseen_layers, layered_all-append}

-- What the committed pairs of a row show at a stamp, to one who sees the commits up to it and no others.
module _ (kind : Kind) (journal : List Commit) (seen : TxnName → Bool) (cut s : ℕ)
    (yes : (i : ℕ) (c : Commit) → slice_get journal i ≡ Some c → cut ≤ i → i < s → seen c.by ≡ true)
    (no : (i : ℕ) (c : Commit) → slice_get journal i ≡ Some c → s ≤ i → seen c.by ≡ false) where
  pub committed_value : (k : Key) → cut ≤ s → first_seen seen (layered_all kind k (drop cut journal) []) (value_at (graph_at kind journal cut) k) ≡ value_at (graph_at kind journal s) k
  committed_value k le =
      let more = s - cut in
      let sum : cut + more ≡ s = omega (arith, le) in
      let old = value_at (graph_at kind journal cut) k in
      let front = take more (drop cut journal) in
      let back = drop (cut + more) journal in
      ap (λ cs. first_seen seen (layered_all kind k cs []) old) (drop_cut cut more journal)
      ∙ ap (λ ps. first_seen seen ps old) (layered_all-append kind k front back [])
      ∙ unseen_layers kind k seen old back (layered_all kind k front []) (λ i c at. no (cut + more + i) c (get_drop (cut + more) journal i c at) (omega (arith, sum)))
      ∙ seen_layers kind k seen old front [] (λ i c at. let t = get_take more (drop cut journal) i c at in yes (cut + i) c (get_drop cut journal i c t.1) (omega arith) (omega (arith, sum, t.0)))
      ∙ sym (value_at-apply_all kind (graph_at kind journal cut) (writes_of front) k)
      ∙ ap (λ g. value_at g k) (sym (graph_at-more kind journal cut more))
      ∙ ap (λ n. value_at (graph_at kind journal n) k) sum

module _ (kind : Kind) (journal : List Commit) (running : TxnName → Option Running) (own : TxnName → List Write) (touching : TxnName → Key → Bool) (horizon : ℕ) (contents : Key → Versions) (is : IsStore kind journal running own touching horizon contents) where
  -- whoever has a stamp has nothing laid beside its commit
  pub no_stamp : (by : TxnName) → (own by ≡ []) × ((k : Key) → touching by k ≡ false) ⊎ (stamp_in journal by ≡ None)
  no_stamp by = elim (stamped_or_none journal by) as (λ _. (own by ≡ []) × ((k : Key) → touching by k ≡ false) ⊎ (stamp_in journal by ≡ None)) [
    | inl h ↦ let is_idle = is.settled h.0 h.1 h.2 in inl (ap own (sym h.3) ∙ is_idle.0, λ k. ap (λ q. touching q k) (sym h.3) ∙ is_idle.1 k)
    | inr none ↦ inr none
  ]

  -- READS: at each stamp from the horizon on, a name that has not committed sees the graph there under its own writes
  pub value_at_stamp : (s : ℕ) (by : TxnName) (k : Key) → horizon ≤ s → HasNotCommitted journal by
      → read (stamp_in journal) s by (contents k) ≡ value_at (view kind journal s (own by)) k
  value_at_stamp s by k le unnamed =
      (λ i. first_seen seen (row.pairs i) (row.oldest i))
      ∙ on_top
      ∙ ap (value_after kind (own by) k) (committed_value kind journal seen cut s
      (λ i c at from lt. or_right _ _ (reached_at kind journal is.transactions.legal i c s at lt))
      (λ i c at past. or_from _ _ (unnamed i c at) (unreached_at kind journal is.transactions.legal i c s at past)) k (omega (arith, le, (is.rows k).below)))
      ∙ sym (value_at-apply_all kind (graph_at kind journal s) (own by) k)
    where
      seen : TxnName → Bool
      seen = sees (stamp_in journal) s by

      cut : ℕ
      cut = (is.rows k).cut

      keeper : TxnName
      keeper = (is.rows k).keeper

      row : IsRow kind journal own touching k cut (is.rows k).since keeper (contents k)
      row = (is.rows k).row

      base : List Version
      base = layered_all kind k (drop cut journal) []

      old : Option ℕ
      old = value_at (graph_at kind journal cut) k

      on_top : first_seen seen (layered kind k keeper (own keeper) base) old ≡ value_after kind (own by) k (first_seen seen base old)
      on_top = elim (same_name keeper by) as (λ t. same_name keeper by ≡ t → first_seen seen (layered kind k keeper (own keeper) base) old ≡ value_after kind (own by) k (first_seen seen base old)) [
        | true ↦ λ e.
            let me = name_eq keeper by e in
            seen_layer kind k seen old keeper (own keeper) base (or_left (same_name keeper by) _ e)
            ∙ ap (λ q. value_after kind (own q) k (first_seen seen base old)) me
        | false ↦ λ e.
            under_others e ∙ sym (value_after-none kind (own by) k _ (false_from_ne_true _ (λ has.
            true≢false (sym (name_self by) ∙ ap (λ q. same_name q by) (row.only by has) ∙ e))))
      ] refl
        where
          under_others : same_name keeper by ≡ false → first_seen seen (layered kind k keeper (own keeper) base) old ≡ first_seen seen base old
          under_others e = elim (no_stamp keeper) as (λ _. first_seen seen (layered kind k keeper (own keeper) base) old ≡ first_seen seen base old) [
            | inl none ↦ ap (λ ws. first_seen seen (layered kind k keeper ws base) old) none.0
            | inr none ↦ unseen_layer kind k seen old keeper (own keeper) base (or_from _ _ e (ap (λ x. reached x s) none))
          ]

  -- so an open transaction sees its view
  pub value_of_view : (by : TxnName) (t : Running) → running by ≡ Some t → (k : Key) → read (stamp_in journal) t.start by (contents k) ≡ value_at (view kind journal t.start t.writes) k
  value_of_view by t there k =
      let at = is.transactions.each by t there in
      value_at_stamp t.start by k at.pinned at.unnamed
      ∙ ap (λ ws. value_at (view kind journal t.start ws) k) (is.laid by t there)

  -- where nothing is laid, a row's newest value is the newest graph's
  pub value_at_end : ((by : TxnName) → own by ≡ []) → (k : Key) → first_seen (λ by. true) (contents k).pairs (contents k).oldest ≡ value_at (graph_at kind journal (length journal)) k
  value_at_end none k =
      let row = (is.rows k).row in
      (λ i. first_seen (λ by. true) (row.pairs i) (row.oldest i))
      ∙ ap (λ ws. first_seen (λ by. true) (layered kind k (is.rows k).keeper ws (layered_all kind k (drop (is.rows k).cut journal) [])) (value_at (graph_at kind journal (is.rows k).cut) k)) (none (is.rows k).keeper)
      ∙ committed_value kind journal (λ by. true) (is.rows k).cut (length journal) (λ i c at from lt. refl) (λ i c at past. absurd (omega (arith, past, below_length journal i c at))) k (omega (arith, (is.rows k).below, is.transactions.behind))
