-- What a pass reads in rows, whoever has told it where the writers of records without a stamp stand.
use Rattle.std.proofs.Common.{◌≡◌, ℕ, ◌≤◌, List, [], length, sym, ◌∙◌, ap, subst, arith}
use Rattle.std.specs.Prelude.{Option}
use mathlib.Core.List.{IsPrefix}
use Rattle.graph_model.specs.declared.row.Key.{Key}
use Rattle.graph_model.specs.declared.journal.TxnName.{TxnName}
use Rattle.graph_model.specs.declared.journal.Commit.{Commit}
use Rattle.graph_model.specs.Graph.{apply_all}
use Rattle.graph_model.specs.History.{graph_at, view}
use Rattle.graph_model.specs.Legal.{IsLegal}
use Rattle.graph_model.specs.Rows.{value_at}
use Rattle.graph_model.specs.Transactions.{stamp_in, reached}
use Rattle.graph_model.proofs.PassLemmas.{latest_here}
use Rattle.txn_manager.specs.declared.config.Config.{Config}
use Rattle.store_model.specs.Stamped.{StampedVersions, AreTold, read_stamped, forget_row}
use Rattle.store_model.proofs.StampedLemmas.{read_forgets}
use Rattle.store_model.proofs.ToldLemmas.{read_agrees, told_all}
use Rattle.store_model.proofs.ValueLemmas.{value_at_stamp}
use Rattle.store_relation.specs.declared.stage.Stage.TheVariants.{Open}
use Rattle.store_relation.specs.Passes.{PassState, laid_of, may_commit, name_of, now_of, number_of, running_of, touching_by}
use Rattle.store_relation.specs.Shared.{IsShared, JournalState}
use Rattle.store_relation.proofs.FrameLemmas.{reached_longer}
use Rattle.store_relation.proofs.SharedLemmas.{same_graph, marked_by, laid_by, not_committed, runs}

module _ {z : Config} {word : ℕ → ℕ} {pass : ℕ → PassState} {j : JournalState} {rows : Key → StampedVersions}
    {clock : ℕ} (s : IsShared z word pass j rows clock) where
  -- what was seen shows the snapshot as the journal does
  pub seen_reached : (seen : List Commit) (start : ℕ) → IsPrefix seen j.commits → start ≤ length seen
      → (by : TxnName) → reached (stamp_in j.commits by) start ≡ reached (stamp_in seen by) start
  seen_reached seen start front within by =
      ap (λ cs. reached (stamp_in cs by) start) (sym front.1)
      ∙ reached_longer z.kind seen front.0 (subst (IsLegal z.kind) (sym front.1) s.store.transactions.legal) by start
      within

  module _ (p : ℕ) (is : (pass p).stage ≡ Open) where
    -- READ: an open transaction reads its view, by whatever tells it of the writers of records without a stamp;
    -- and so does one that knows another prefix of the journal
    pub reads_right : (seen : List Commit) → IsPrefix seen j.commits → (pass p).start ≤ length seen
        → (stamps : TxnName → Option ℕ) (k : Key) → AreTold stamps (stamp_in j.commits) (pass p).start (rows k)
        → read_stamped stamps (pass p).start (name_of pass p) (rows k)
        ≡ value_at (view z.kind seen (pass p).start (pass p).own) k
    reads_right seen front within stamps k told =
        let start : ℕ = (pass p).start in
        let w : word p ≡ 1 = marked_by s p Open is in
        let laid : (pass p).laid ≡ (pass p).own = laid_by s p Open is in
        let mine = s.store.transactions.each (name_of pass p) (now_of (pass p)) (runs s p (ap may_commit is)) in
        let live : s.horizon ≤ start = mine.pinned in
        read_agrees stamps (stamp_in j.commits) start (name_of pass p) (rows k) told
        ∙ read_forgets (stamp_in j.commits) start (name_of pass p) (rows k) (s.stamps k)
        ∙ value_at_stamp z.kind j.commits (running_of pass) (laid_of pass) (touching_by pass) s.horizon
        (λ q. forget_row (rows q)) s.store start (name_of pass p) k live (not_committed s p (omega (arith, w)))
        ∙ ap (λ ws. value_at (apply_all z.kind (graph_at z.kind j.commits start) ws) k)
        (latest_here number_of (λ st. st.laid) [] pass p ∙ laid)
        ∙ ap (λ g. value_at (apply_all z.kind g (pass p).own) k) (sym (same_graph s p seen start front within))

    -- by what the pass has seen itself
    pub reads_seen : (k : Key)
        → read_stamped (stamp_in (pass p).seen) (pass p).start (name_of pass p) (rows k)
        ≡ value_at (view z.kind (pass p).seen (pass p).start (pass p).own) k
    reads_seen k =
        let h = s.each p in
        reads_right (pass p).seen h.seen h.started (stamp_in (pass p).seen) k
        (told_all (stamp_in (pass p).seen) (stamp_in j.commits) (pass p).start
        (λ n. sym (seen_reached (pass p).seen (pass p).start h.seen h.started n)) (rows k))
