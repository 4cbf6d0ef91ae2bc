-- The store relation through each kind of change.
use Rattle.std.proofs.Common.{◌≡◌, ℕ, ◌+◌, ◌<◌, List, [], ◌∷◌, ◌++◌, length, drop, sym, ◌∙◌, ap, subst, arith, cond, inl, inr}
use Rattle.std.specs.Prelude.{Bool, false, ◌&&◌, ◌||◌, Option, Some, None}
use Rattle.std.proofs.lemmas.Bool.{false_from_ne_true}
use Rattle.graph_model.specs.declared.write.Kind.{Kind}
use Rattle.graph_model.specs.declared.write.Write.{Write}
use Rattle.graph_model.specs.declared.row.Key.{Key}
use Rattle.graph_model.specs.declared.journal.Commit.{Commit}
use Rattle.graph_model.specs.declared.journal.TxnName.{TxnName}
use Rattle.graph_model.specs.Conflict.{same_name}
use Rattle.graph_model.specs.Effects.{writes_at, touches_at, any_touches}
use Rattle.graph_model.specs.History.{view}
use Rattle.graph_model.specs.Refused.{refused, IsWithinLimits}
use Rattle.graph_model.specs.Transactions.{Running, Changes, commit_of, HasNotCommitted}
use Rattle.graph_model.proofs.TestLemmas.{name_self, name_eq}
use Rattle.graph_model.proofs.PlaceLemmas.{get_drop, get_snoc}
use Rattle.graph_model.proofs.TransactionLemmas.{each_changed, each_gone, begin_keeps, end_keeps, write_keeps, commit_keeps}
use Rattle.store_model.specs.declared.versions.Versions.{Versions}
use Rattle.store_model.specs.Store.{HasRow, IsStore, MeetsNobody, Lays, TakesBack, Settles}
use Rattle.store_model.proofs.RowLemmas.{list_any-snoc, row_write, row_undo}
use Rattle.store_model.proofs.SettledRowLemmas.{row_commit}
use Rattle.store_model.proofs.MeetLemmas.{clear_row}
use Rattle.store_model.proofs.WriterLemmas.{committed_none}

not_empty : (ws : List Write) (w : Write) → ws ++ w ∷ [] ≡ [] → ⊥
not_empty [] w e = cc
not_empty (x ∷ ws) w e = cc

module _ (kind : Kind) (journal : List Commit) (running : TxnName → Option Running) (own : TxnName → List Write) (touching : TxnName → Key → Bool) (horizon : ℕ) (contents : Key → Versions) (is : IsStore kind journal running own touching horizon contents) where
  -- SAME: nothing has changed but how one says what is laid, and where the rows lie
  pub store_same : (own' : TxnName → List Write) (touching' : TxnName → Key → Bool) (contents' : Key → Versions)
      → ((q : TxnName) → own' q ≡ own q) → ((q : TxnName) (k : Key) → touching' q k ≡ touching q k) → ((k : Key) → contents' k ≡ contents k)
      → IsStore kind journal running own' touching' horizon contents'
  store_same own' touching' contents' same_own same_marks same_rows =
      let o : own ≡ own' = (λ i q. sym (same_own q) i) in
      let t : touching ≡ touching' = (λ i q k. sym (same_marks q k) i) in
      let c : contents ≡ contents' = (λ i k. sym (same_rows k) i) in
      subst (λ f. IsStore kind journal running f touching' horizon contents') o
      (subst (λ g. IsStore kind journal running own g horizon contents') t (subst (λ h. IsStore kind journal running own touching horizon h) c is))

  module _ (by : TxnName) (running' : TxnName → Option Running) where
    -- BEGIN: nobody has committed under the name, and nothing is laid under it
    pub store_begun : Changes by running running' (Some (record { start = length journal; writes = [] }))
        → own by ≡ [] → ((k : Key) → touching by k ≡ false) → HasNotCommitted journal by
        → IsStore kind journal running' own touching horizon contents
    store_begun ch idle unmarked unnamed = record {
      transactions = begin_keeps kind journal running horizon is.transactions by running' ch unnamed;
      rows = is.rows;
      laid = each_changed (λ q u. own q ≡ u.writes) by running running' _ ch idle (λ q u e at. is.laid q u at);
      marked = each_changed (λ q u. (k : Key) → touching q k ≡ any_touches u.writes k) by running running' _ ch unmarked (λ q u e at. is.marked q u at);
      settled = is.settled;
    }

    -- STOP: it can't commit any more, and what it has laid stands
    pub store_stopped : Changes by running running' None → IsStore kind journal running' own touching horizon contents
    store_stopped ch = record {
      transactions = end_keeps kind journal running horizon is.transactions by running' ch;
      rows = is.rows;
      laid = each_gone (λ q u. own q ≡ u.writes) by running running' ch (λ q u e at. is.laid q u at);
      marked = each_gone (λ q u. (k : Key) → touching q k ≡ any_touches u.writes k) by running running' ch (λ q u e at. is.marked q u at);
      settled = is.settled;
    }

    module _ (t : Running) (there : running by ≡ Some t) (own' : TxnName → List Write) (touching' : TxnName → Key → Bool) where
      unnamed_here : HasNotCommitted journal by
      unnamed_here = (is.transactions.each by t there).unnamed

      -- WRITE: of whatever kind, one that its view allows and that meets nobody
      pub store_written : (w : Write) (contents' : Key → Versions)
          → Changes by running running' (Some (record { start = t.start; writes = t.writes ++ w ∷ [] }))
          → refused (view kind journal t.start t.writes) w ≡ None → IsWithinLimits w
          → MeetsNobody kind journal running own by t.start w
          → Lays kind by w own own' touching touching' contents contents'
          → IsStore kind journal running' own' touching' horizon contents'
      store_written w contents' ch allowed within nobody lays = record {
        transactions = write_keeps kind journal running horizon is.transactions by running' t there w ch allowed within nobody.holder nobody.later;
        rows = λ k. subst (HasRow kind journal own' touching' horizon k) (sym (lays.rows k)) (record {
          cut = (is.rows k).cut;
          since = (is.rows k).since;
          keeper = cond (writes_at kind w k) by (is.rows k).keeper;
          below = (is.rows k).below;
          below_since = (is.rows k).below_since;
          row = row_write kind journal own touching k (is.rows k).cut (is.rows k).since (is.rows k).keeper (contents k) (is.rows k).row by w own' touching' lays.mine lays.others (λ q. lays.touches q k)
              (λ on away. clear_row kind w (own (is.rows k).keeper) k (nobody.clear (is.rows k).keeper away) on);
        });
        laid = each_changed (λ q u. own' q ≡ u.writes) by running running' _ ch (lays.mine ∙ ap (λ ws. ws ++ w ∷ []) (is.laid by t there)) (λ q u e at. lays.others q e ∙ is.laid q u at);
        marked = each_changed (λ q u. (k : Key) → touching' q k ≡ any_touches u.writes k) by running running' _ ch
            (λ k. lays.touches by k ∙ (λ i. (name_self by i && touches_at w k) || is.marked by t there k i) ∙ sym (list_any-snoc (λ x. touches_at x k) t.writes w))
            (λ q u e at k. lays.touches q k ∙ ap (λ s. (s && touches_at w k) || touching q k) e ∙ is.marked q u at k);
        settled = λ i c at. (
          lays.others c.by (unnamed_here i c at) ∙ (is.settled i c at).0,
          λ k. lays.touches c.by k ∙ ap (λ s. (s && touches_at w k) || touching c.by k) (unnamed_here i c at) ∙ (is.settled i c at).1 k,
        );
      }

      -- COMMIT: its commit is the journal's next, and no row changes
      pub store_committed : Changes by running running' None → 0 < length t.writes → Settles by own own' touching touching'
          → IsStore kind (journal ++ commit_of journal by t ∷ []) running' own' touching' horizon contents
      store_committed ch wrote settles = record {
        transactions = commit_keeps kind journal running horizon is.transactions by running' t there ch wrote;
        rows = λ k. record {
          cut = (is.rows k).cut;
          since = (is.rows k).since;
          keeper = (is.rows k).keeper;
          below = (is.rows k).below;
          below_since = (is.rows k).below_since;
          row = row_commit kind journal own touching k (is.rows k).cut (is.rows k).since (is.rows k).keeper (contents k) (is.rows k).row (commit_of journal by t) own' touching'
              (omega (arith, (is.rows k).below, is.transactions.behind)) (omega (arith, (is.rows k).below_since, is.transactions.behind)) (is.laid by t there) settles.mine settles.others (λ q. settles.touches q k) (is.marked by t there k);
        };
        laid = each_gone (λ q u. own' q ≡ u.writes) by running running' ch (λ q u e at. settles.others q e ∙ is.laid q u at);
        marked = each_gone (λ q u. (k : Key) → touching' q k ≡ any_touches u.writes k) by running running' ch (λ q u e at k. settles.touches q k ∙ ap (λ s. cond s false (touching q k)) e ∙ is.marked q u at k);
        settled = λ i d at. elim (get_snoc journal (commit_of journal by t) i d at) as (λ _. (own' d.by ≡ []) × ((k : Key) → touching' d.by k ≡ false)) [
          | inl p ↦ (
            settles.others d.by (unnamed_here i d p.1) ∙ (is.settled i d p.1).0,
            λ k. settles.touches d.by k ∙ ap (λ s. cond s false (touching d.by k)) (unnamed_here i d p.1) ∙ (is.settled i d p.1).1 k,
          )
          | inr p ↦ subst (λ (x : Commit). (own' x.by ≡ []) × ((k : Key) → touching' x.by k ≡ false)) p.1 (settles.mine, λ k. settles.touches by k ∙ ap (λ s. cond s false (touching by k)) (name_self by))
        ];
      }

  -- UNDO: one that can't commit takes its newest write back
  pub store_undone : (by : TxnName) → running by ≡ None → (w : Write) (own' : TxnName → List Write) (touching' : TxnName → Key → Bool) (contents' : Key → Versions)
      → TakesBack kind by w own own' touching touching' contents contents'
      → IsStore kind journal running own' touching' horizon contents'
  store_undone by closed w own' touching' contents' takes = record {
    transactions = is.transactions;
    rows = λ k. subst (HasRow kind journal own' touching' horizon k) (sym (takes.rows k)) (record {
      cut = (is.rows k).cut;
      since = (is.rows k).since;
      keeper = (is.rows k).keeper;
      below = (is.rows k).below;
      below_since = (is.rows k).below_since;
      row = row_undo kind journal own touching k (is.rows k).cut (is.rows k).since (is.rows k).keeper (contents k) (is.rows k).row by w own' touching' takes.mine takes.others (λ q. takes.touches q k)
          (committed_none (λ ws. any_touches ws k) (drop (is.rows k).since journal) by (λ i c at. unnamed ((is.rows k).since + i) c (get_drop (is.rows k).since journal i c at)));
    });
    laid = λ q u at. takes.others q (away q u at) ∙ is.laid q u at;
    marked = λ q u at k. takes.touches q k ∙ ap (λ s. cond (s && touches_at w k) false (touching q k)) (away q u at) ∙ is.marked q u at k;
    settled = λ i c at. (
      takes.others c.by (unnamed i c at) ∙ (is.settled i c at).0,
      λ k. takes.touches c.by k ∙ ap (λ s. cond (s && touches_at w k) false (touching c.by k)) (unnamed i c at) ∙ (is.settled i c at).1 k,
    );
  }
    where
      unnamed : HasNotCommitted journal by
      unnamed i c at = false_from_ne_true _ (λ e. not_empty (own' by) w (sym takes.mine ∙ ap own (sym (name_eq c.by by e)) ∙ (is.settled i c at).0))

      away : (q : TxnName) (u : Running) → running q ≡ Some u → same_name q by ≡ false
      away q u at = false_from_ne_true _ (λ e. let both : ◌≡◌ {A = Option Running} None (Some u) = sym closed ∙ ap running (sym (name_eq q by e)) ∙ at in cc)
