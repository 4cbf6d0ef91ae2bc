-- Whom a check of held records names may be noted.
use Rattle.std.proofs.Common.{◌≡◌, ◌⊎◌, inl, inr, ℕ, ◌+◌, ◌<◌, List, sym, ◌∙◌, ap, subst, arith}
use Rattle.std.specs.Prelude.{true, false, Some, None, unwrap_or}
use Rattle.graph_model.specs.declared.journal.TxnName.{TxnName}
use Rattle.graph_model.specs.declared.refusal.Cause.TheVariants.{Holder, Later}
use Rattle.graph_model.specs.declared.write.Write.{Write}
use Rattle.graph_model.specs.Conflict.{same_name}
use Rattle.graph_model.specs.Transactions.{reached, stamp_in}
use Rattle.graph_model.proofs.HistoryLemmas.{each_item}
use Rattle.txn_manager.specs.declared.config.Config.{Config}
use Rattle.store_model.specs.Stamped.{Stamped}
use Rattle.undo_chain.specs.declared.states.Snapshot.{Snapshot}
use Rattle.seat_views.specs.Keeping.{kept_at}
use Rattle.store_rule.specs.StoreRelation.Passes.{PassState, fresh_pass}
use Rattle.store_rule.specs.StoreRelation.Words.{has_word}
use Rattle.store_rule.proofs.StoreRelation.CheckLemmas.{checked_cause, holder_cause, later_cause}
use Rattle.store_rule.specs.RuleModel.NoteSteps.{LooksAtRecord}
use Rattle.store_rule.specs.RuleModel.Sight.{Sight}
use Rattle.store_rule.specs.declared.store.Pass.{Pass}
use Rattle.store_rule.specs.declared.store.Store.{Store}
use Rattle.pass_steps.specs.Laws.{HolderIsMet, IsAsked, LaterIsMet, knowledge_of}
use Rattle.pass_steps.specs.Passes.{name_of_pass, state_in, state_of}

-- what a view looks at it looks at with the same cells
still_looks : (z : Config) (v w : Sight) (write : Write) (x : Stamped) → w.cells ≡ v.cells
    → LooksAtRecord z v write x → LooksAtRecord z w write x
still_looks z v w write x same l = record {
  number = l.number;
  cell = l.cell;
  key = l.key;
  record_in = record {
    row = record {
      cell = ap (λ cells. kept_at cells l.number) same ∙ l.record_in.row.cell;
      inside = l.record_in.row.inside;
      covered = l.record_in.row.covered;
    };
    there = l.record_in.there;
  };
  looks = l.looks;
}

module _ (store : Store) (old new : Pass) (clock : ℕ) (w : Write) (snapshot : Snapshot) (records : List Stamped)
    (asked : IsAsked store old new clock w snapshot records) where
  now_is : state_of new ≡ record (state_of old) { looks = (state_of new).looks }
  now_is =
      let h = asked.looked.looked in
      let number = asked.looked.number in
      (λ i. state_in new.account.me.0 (number i)) ∙ ap (λ o. unwrap_or o fresh_pass) h.has
      ∙ (λ i. record (state_of old) { looks = (state_in new.account.me.0 (sym number i)).looks })

  looks_at_it : (x : Stamped) → LooksAtRecord store.accounts.config old.account.me.0 w x
      → LooksAtRecord store.accounts.config new.account.me.0 w x
  looks_at_it x = still_looks store.accounts.config old.account.me.0 new.account.me.0 w x asked.looked.looked.cells

-- LATER
pub later_is_met : LaterIsMet
later_is_met store old new clock w snapshot records stamp asked checked =
    let k = knowledge_of store old clock in
    let k' = knowledge_of store new clock in
    let c = checked_cause k k' snapshot records (Later stamp) checked in
    let l = later_cause k k' snapshot records stamp c in
    let behind : (state_of old).start < stamp = subst (λ n. n < stamp) asked.snapshot_is.start l.0 in
    let some : 0 < stamp = omega (arith, behind) in (
      behind,
      record {
        stamped = c.stamped;
        looks = looks_at_it store old new clock w snapshot records asked c.stamped
            (each_item (LooksAtRecord store.accounts.config old.account.me.0 w) records asked.looks c.place c.stamped
            c.at);
        found = elim l.1 as (λ _. (c.stamped.stamp ≡ Some stamp) ⊎ ((c.stamped.stamp ≡ None)
            × (has_word (state_of new).looks c.stamped.by (stamp + 2) ≡ true) × (0 < stamp))) [
              | inl at ↦ inl at
              | inr bare ↦ inr (bare.0, bare.1, some)
            ];
      },
    )

-- HOLDER
pub holder_is_met : HolderIsMet
holder_is_met store old new clock w snapshot records by asked checked =
    let k = knowledge_of store old clock in
    let k' = knowledge_of store new clock in
    let c = checked_cause k k' snapshot records (Holder by) checked in
    let h = holder_cause k k' snapshot records by c in
    let looks = each_item (LooksAtRecord store.accounts.config old.account.me.0 w) records asked.looks c.place
    c.stamped c.at in
    let away : same_name c.stamped.by (name_of_pass old) ≡ false =
    subst (λ n. same_name c.stamped.by n ≡ false) asked.snapshot_is.own h.2 in
    let now = now_is store old new clock w snapshot records asked in (
      λ same. asked.learnt.others looks.number looks.cell looks.key c.stamped looks.record_in h.1 away
          (ap (λ (n : TxnName). n.job) h.0 ∙ same),
      record {
        stamped = c.stamped;
        looks = looks_at_it store old new clock w snapshot records asked c.stamped looks;
        writer = h.0;
        unseen = subst (λ (u : PassState). reached (stamp_in u.seen by) u.start ≡ false) (sym now)
            (ap (λ o. reached o (state_of old).start) (ap (stamp_in (state_of old).seen) (sym h.0) ∙ h.3));
      },
    )
