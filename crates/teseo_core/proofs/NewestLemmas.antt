-- What a name reads at the clock that no open transaction has.
use Rattle.std.proofs.Common.{◌≡◌, ℕ, List, [], length, drop, refl, ◌∙◌, ap, arith, inl, inr}
use Rattle.std.specs.Prelude.{◌⊎◌, Bool, true, false, Option, None}
use Rattle.std.proofs.lemmas.Bool.{or_right, or_from}
use Rattle.graph_model.specs.declared.write.Kind.{Kind}
use Rattle.graph_model.specs.declared.write.Write.{Write}
use Rattle.graph_model.specs.declared.row.Key.{Key}
use Rattle.graph_model.specs.declared.journal.Commit.{Commit}
use Rattle.graph_model.specs.declared.journal.TxnName.{TxnName}
use Rattle.graph_model.specs.Conflict.{same_name}
use Rattle.graph_model.specs.History.{graph_at}
use Rattle.graph_model.specs.OwnerCalls.{Core}
use Rattle.graph_model.specs.Rows.{value_at}
use Rattle.graph_model.specs.Transactions.{Running, own_of, stamp_in, reached, writes_of_running}
use Rattle.graph_model.proofs.TestLemmas.{name_eq}
use Rattle.graph_model.proofs.LegalLemmas.{below_length}
use Rattle.graph_model.proofs.StampLemmas.{reached_at}
use Rattle.store_model.specs.declared.version.Version.{Version}
use Rattle.store_model.specs.declared.versions.Versions.{Versions}
use Rattle.store_model.specs.Versions.{first_seen, sees, read}
use Rattle.store_model.specs.Layers.{layered, layered_all}
use Rattle.store_model.specs.Store.{IsRow, IsStore, touching_of}
use Rattle.store_model.proofs.LayerLemmas.{unseen_layer}
use Rattle.store_model.proofs.ValueLemmas.{committed_value, no_stamp}
use Rattle.txn_manager.specs.Manager.{Manager}
use Rattle.leaf_rows.specs.LeafStore.Leaves.{Leaves, contents_of}
use Rattle.teseo_core.specs.Keeping.{IsKept, newest_graph, running_in}

-- whoever has laid nothing sees the whole journal's graph at the clock
module _ (kind : Kind) (journal : List Commit) (running : TxnName → Option Running) (own : TxnName → List Write) (touching : TxnName → Key → Bool) (horizon : ℕ) (contents : Key → Versions) (is : IsStore kind journal running own touching horizon contents) where
  pub value_at_clock : (by : TxnName) (k : Key) → own by ≡ [] → read (stamp_in journal) (length journal) by (contents k) ≡ value_at (graph_at kind journal (length journal)) k
  value_at_clock by k idle =
      (λ i. first_seen seen (row.pairs i) (row.oldest i))
      ∙ on_top (same_name keeper by) refl
      ∙ committed_value kind journal seen cut (length journal)
      (λ i c at from lt. or_right _ _ (reached_at kind journal is.transactions.legal i c (length journal) at lt))
      (λ i c at past. absurd (omega (arith, past, below_length journal i c at))) k (omega (arith, (is.rows k).below, is.transactions.behind))
    where
      seen : TxnName → Bool
      seen = sees (stamp_in journal) (length journal) by

      cut : ℕ
      cut = (is.rows k).cut

      keeper : TxnName
      keeper = (is.rows k).keeper

      row : IsRow kind journal own touching k cut (is.rows k).since keeper (contents k)
      row = (is.rows k).row

      base : List Version
      base = layered_all kind k (drop cut journal) []

      old : Option ℕ
      old = value_at (graph_at kind journal cut) k

      nothing : own keeper ≡ [] → first_seen seen (layered kind k keeper (own keeper) base) old ≡ first_seen seen base old
      nothing none = ap (λ ws. first_seen seen (layered kind k keeper ws base) old) none

      of_others : same_name keeper by ≡ false → (own keeper ≡ []) × ((q : Key) → touching keeper q ≡ false) ⊎ (stamp_in journal keeper ≡ None)
          → first_seen seen (layered kind k keeper (own keeper) base) old ≡ first_seen seen base old
      of_others e (inl none) = nothing none.0
      of_others e (inr none) = unseen_layer kind k seen old keeper (own keeper) base (or_from _ _ e (ap (λ x. reached x (length journal)) none))

      on_top : (t : Bool) → same_name keeper by ≡ t → first_seen seen (layered kind k keeper (own keeper) base) old ≡ first_seen seen base old
      on_top true e = nothing (ap own (name_eq keeper by e) ∙ idle)
      on_top false e = of_others e (no_stamp kind journal running own touching horizon contents is keeper)

-- so under a name that no open transaction has the newest graph is read
pub newest_read : (core : Core) (m : Manager) (rows : Leaves) → IsKept core m rows → (by : TxnName) → running_in core by ≡ None → (clock : ℕ) → clock ≡ length m.journal
    → (k : Key) → read (stamp_in m.journal) clock by (contents_of rows k) ≡ value_at (newest_graph core) k
newest_read core m rows is by none clock at k =
    (λ i. read (stamp_in (is.tied.journal i)) ((at ∙ ap length is.tied.journal) i) by (contents_of rows k))
    ∙ value_at_clock core.kind core.journal (running_in core) (own_of (running_in core)) (touching_of (running_in core)) is.horizon (contents_of rows) is.store by k (ap writes_of_running none)
