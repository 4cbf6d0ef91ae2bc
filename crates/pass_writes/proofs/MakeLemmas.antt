-- What the check of a write tells of the rows that it needs.
use Rattle.std.proofs.Common.{◌≡◌, ℕ, List, sym, ◌∙◌, subst}
use Rattle.std.specs.Prelude.{None}
use Rattle.graph_model.specs.declared.write.Write.{Write}
use Rattle.graph_model.specs.Refused.{refused}
use Rattle.graph_model.specs.Transactions.{stamp_in}
use Rattle.undo_chain.specs.declared.states.Snapshot.{Snapshot}
use Rattle.pass_prunes.specs.RowWrites.Checks.{ShowsHeld}
use Rattle.pass_prunes.specs.RowWrites.Held.{AreHeld}
use Rattle.pass_prunes.specs.RowWrites.Laying.{MayLay}
use Rattle.pass_prunes.specs.RowWrites.Written.{all_keys, rows_of}
use Rattle.pass_prunes.specs.RowWritesDeclared.written.WrittenRows.{WrittenRows}
use Rattle.pass_prunes.specs.StoreRelation.Passes.{PassState, name_at}
use Rattle.pass_prunes.specs.RuleModel.NoteSteps.{LearnsRows}
use Rattle.pass_prunes.specs.StoreRule.Passes.{OnlyAccount}
use Rattle.pass_prunes.specs.StoreRuleDeclared.store.Pass.{Pass}
use Rattle.pass_prunes.specs.StoreRuleDeclared.store.Store.{Store}
use Rattle.pass_prunes.specs.PassCells.Changes.{MissesFew}
use Rattle.pass_prunes.specs.PassCellsDeclared.taken.TakenCell.{TakenCell}
use Rattle.pass_prunes.specs.PassCells.Holding.{RowsAreKnown}
use Rattle.pass_prunes.specs.PassCells.Taken.{held_rows}
use Rattle.pass_prunes.specs.PassSteps.Asking.{KnowsLooks}
use Rattle.pass_prunes.specs.PassSteps.Passes.{IsSamePass, pin_of, reader_of_pass, state_of}
use Rattle.pass_writes.specs.Found.{view_of}
use Rattle.pass_writes.specs.Hand.{HasInHand}
use Rattle.pass_writes.proofs.CheckLemmas.{shows}
use Rattle.pass_writes.proofs.RoomLemmas.{may_lay, misses_few}
use Rattle.pass_writes.proofs.StateLemmas.{learnt_steps, looked_steps, same_again}

module _ (rows : RowsAreKnown) (store : Store) (old mid new : Pass) (ts : List TakenCell) (clock : ℕ)
    (hand : HasInHand store old ts) (same : OnlyAccount old mid old.account.me.0)
    (learnt : LearnsRows store.accounts.config old.account.me.0 (reader_of_pass old) clock)
    (looked : KnowsLooks mid.account.me.0 mid new) where
  abbrev st : PassState
  st = state_of old

  abbrev snapshot : Snapshot
  snapshot = record { start = st.start; own = name_at old.number st }

  mid_hand : HasInHand store mid ts
  mid_hand = (learnt_steps store old mid ts hand same).hand

  pub new_hand : HasInHand store new ts
  new_hand = (looked_steps store mid new ts mid_hand looked).hand

  -- STATE: only words were found
  pub new_state : state_of new ≡ record st { looks = (state_of new).looks }
  new_state = (looked_steps store mid new ts mid_hand looked).state
      ∙ (λ i. record ((learnt_steps store old mid ts hand same).state i) { looks = (state_of new).looks })

  pub new_pin : pin_of new ≡ pin_of old
  new_pin = (looked_steps store mid new ts mid_hand looked).pin ∙ (learnt_steps store old mid ts hand same).pin

  pub new_same : IsSamePass old new
  new_same = same_again old mid new (learnt_steps store old mid ts hand same).same
      (looked_steps store mid new ts mid_hand looked).same

  shown : ShowsHeld (stamp_in st.seen) snapshot (held_rows ts) (view_of store.accounts.config.kind st)
  shown = shows store.accounts.config old.account.me.0 old.number st (held_rows ts) (rows store old ts hand.holds) clock
      learnt

  module _ (w : Write) (r : WrittenRows) (is : r ≡ rows_of store.accounts.config.kind w)
      (held : AreHeld (held_rows ts) (all_keys r))
      (allowed : refused (view_of store.accounts.config.kind (state_of new)) w ≡ None) where
    was_allowed : refused (view_of store.accounts.config.kind st) w ≡ None
    was_allowed = (λ i. refused (view_of store.accounts.config.kind (sym new_state i)) w) ∙ allowed

    all_held : AreHeld (held_rows ts) (all_keys (rows_of store.accounts.config.kind w))
    all_held = subst (λ x. AreHeld (held_rows ts) (all_keys x)) is held

    -- MAY LAY
    pub lays : MayLay (held_rows ts) w
    lays = may_lay ts (stamp_in st.seen) snapshot (view_of store.accounts.config.kind st) shown
        store.accounts.config.kind w all_held was_allowed

    -- FEW
    pub few : MissesFew store.accounts.config.kind (held_rows ts) w
    few = misses_few ts (stamp_in st.seen) snapshot store.accounts.config.kind st shown w all_held was_allowed
