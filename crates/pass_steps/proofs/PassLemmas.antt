-- A pass after a step on its account, between calls and with the journal in hand.
use Rattle.std.proofs.Common.{◌≡◌, ℕ, ◌+◌, ◌<◌, List, [], ◌∷◌, refl, sym, ◌∙◌, ap, subst, arith, append-nil}
use Rattle.std.specs.Prelude.{Some, unwrap_or}
use Rattle.atomic_table.specs.Seated.{TableId}
use Rattle.graph_model.specs.Account.{Account}
use Rattle.graph_model.specs.AccountSteps.{GoesOn}
use Rattle.graph_model.specs.Legal.{IsLegal}
use Rattle.latch_table.specs.Latched.{number_of}
use Rattle.latch_table.specs.Latched.{IsPassOf as IsLatchPass}
use Rattle.seat_views.specs.Keeping.{kept_at, without}
use Rattle.txn_manager.specs.declared.config.Config.{Config}
use Rattle.store_rule.specs.StoreRelation.Passes.{PassState, account_of, fresh_pass}
use Rattle.store_rule.specs.StoreRelation.Shared.{JournalState}
use Rattle.store_rule.proofs.StoreRelation.EndLemmas.{new_shared}
use Rattle.store_rule.specs.RuleModel.Sight.{HasJournal, PinState, Sight, cells_of, fresh_pin, with_commit, with_journal, with_pass, with_pin, with_rows}
use Rattle.store_rule.specs.Passes.{OnlyAccount}
use Rattle.store_rule.specs.Slots.{FitsPlace, IsJournalSlot}
use Rattle.store_rule.specs.declared.slot.StoreSlot.{StoreSlot}
use Rattle.store_rule.specs.declared.slot.StoreSlot.TheVariants as slots
use Rattle.store_rule.specs.declared.store.Pass.{Pass}
use Rattle.store_rule.specs.declared.store.Store.{Store}
use Rattle.store_rule.specs.StoreWords.Notes.{pass_note}
use Rattle.pass_steps.specs.Journal.{HasTaken}
use Rattle.pass_steps.specs.Asking.{HasLooked}
use Rattle.pass_steps.specs.Laws.{IdlePassIsBack, NewPassIsIdle, PassHasLooked, PassIsStepped}
use Rattle.pass_steps.specs.Passes.{HasNoContents, HasNoTxn, HoldsNone, IsIdlePass, IsOwnSight, IsPassOf, IsSamePass, account_of_pass, pin_in, pin_of, state_in, state_of}
use Rattle.pass_steps.proofs.SightLemmas.{kept_else, kept_here, own_commit, own_journal, own_pin, own_rows, pin_here, state_here, without_here}

-- ---- a step on the account

module _ (store : Store) (old new : Pass) (v : Sight) (step : OnlyAccount old new v) where
  pub sight_is : new.account.me.0 ≡ v
  sight_is i = (step.account.me i).0

  pub state_is : state_of new ≡ state_in v old.number
  state_is i = state_in (sight_is i) (step.number i)

  pub pin_is : pin_of new ≡ pin_in v old.number
  pin_is i = pin_in (sight_is i) (step.number i)

  pub pass_after : IsPassOf store old → IsOwnSight old.number v
      → IsLegal store.accounts.config.kind (state_in v old.number).seen → IsPassOf store new
  pass_after of own legal = record {
    inside = subst (λ n. n < store.accounts.config.passes) (sym step.number) of.inside;
    latch = subst (IsLatchPass store.latches.table.shared.key.config.passes store.latches.table.shared.key
        store.latches.table.shared.table_id) (sym step.latch) of.latch;
    same = (λ i. number_of (step.latch i).me.0) ∙ of.same ∙ sym step.number;
    table = step.account.table ∙ of.table;
    slots = (λ i. (step.account.me i).1) ∙ of.slots;
    sight = subst (λ (x : ℕ × Sight). IsOwnSight x.0 x.1) (λ i. (sym step.number i, sym sight_is i)) own;
    legal = subst (λ (st : PassState). IsLegal store.accounts.config.kind st.seen) (sym state_is) legal;
  }

  pub none_after : HoldsNone old → HasNoContents v → HoldsNone new
  none_after none free = record {
    latches = (λ i. (step.latch i).me.1) ∙ none.latches;
    buffers = step.buffers ∙ none.buffers;
    contents = subst HasNoContents (sym sight_is) free;
  }

  pub same_after : v.reads ≡ old.account.me.0.reads → IsSamePass old new
  same_after reads = record { number = step.number; reads = (λ i. (sight_is i).reads) ∙ reads }

  -- ---- with the journal in hand
  pub taken_after : (st : PassState) (x : PinState) (j j' : JournalState) → HasTaken store old st x j
      → IsOwnSight old.number v → IsLegal store.accounts.config.kind (state_in v old.number).seen
      → HasJournal v j' → without 0 v.journals ≡ [] → v.cells ≡ [] → v.indexes ≡ []
      → HasTaken store new (state_in v old.number) (pin_in v old.number) j'
  taken_after st x j j' taken own legal has alone cells indexes = record {
    of = pass_after taken.of own legal;
    latch = (λ i. (step.latch i).me.1) ∙ taken.latch;
    buffers = step.buffers ∙ taken.buffers;
    state = state_is;
    pin = pin_is;
    journal = subst (λ (u : Sight). HasJournal u j') (sym sight_is) has;
    alone = (λ i. without 0 (sight_is i).journals) ∙ alone;
    cells = (λ i. (sight_is i).cells) ∙ cells;
    indexes = (λ i. (sight_is i).indexes) ∙ indexes;
  }

-- STEP
pub pass_is_stepped : PassIsStepped
pass_is_stepped store old new st cells of legal step =
    let v = with_rows old.account.me.0 old.number st cells in
    let here = state_here old.account.me.0 old.number st cells in
    record {
      of = pass_after store old new v step of (own_rows of.sight st cells)
          (subst (λ (u : PassState). IsLegal store.accounts.config.kind u.seen) (sym here) legal);
      state = state_is store old new v step ∙ here;
      pin = pin_is store old new v step;
    }

-- ---- the steps with the journal in hand

module _ (store : Store) (old new : Pass) (st : PassState) (x : PinState) (j : JournalState)
    (taken : HasTaken store old st x j) where
  legal_now : IsLegal store.accounts.config.kind st.seen
  legal_now = subst (λ (u : PassState). IsLegal store.accounts.config.kind u.seen) taken.state taken.of.legal

  -- nothing is news
  pub taken_same : OnlyAccount old new old.account.me.0 → HasTaken store new st x j
  taken_same step =
      subst (λ (u : PassState × PinState). HasTaken store new u.0 u.1 j) (λ i. (taken.state i, taken.pin i))
      (taken_after store old new old.account.me.0 step st x j j taken taken.of.sight taken.of.legal taken.journal
      taken.alone taken.cells taken.indexes)

  -- the pin is news
  pub taken_pin : (x' : PinState) → OnlyAccount old new (with_pin old.account.me.0 old.number x')
      → HasTaken store new st x' j
  taken_pin x' step =
      let v = with_pin old.account.me.0 old.number x' in
      subst (λ (u : PassState × PinState). HasTaken store new u.0 u.1 j)
      (λ i. (taken.state i, pin_here old.account.me.0 old.number x' i))
      (taken_after store old new v step st x j j taken (own_pin taken.of.sight x') taken.of.legal taken.journal
      taken.alone taken.cells taken.indexes)

  -- the state is news
  pub taken_pass : (st' : PassState) → IsLegal store.accounts.config.kind st'.seen
      → OnlyAccount old new (with_pass old.account.me.0 old.number st') → HasTaken store new st' x j
  taken_pass st' legal step =
      let v = with_pass old.account.me.0 old.number st' in
      let here : state_in v old.number ≡ st' = state_here old.account.me.0 old.number st' [] in
      subst (λ (u : PassState × PinState). HasTaken store new u.0 u.1 j)
      (λ i. (here i, taken.pin i))
      (taken_after store old new v step st x j j taken (own_rows taken.of.sight st' [])
      (subst (λ (u : PassState). IsLegal store.accounts.config.kind u.seen) (sym here) legal) taken.journal
      taken.alone taken.cells taken.indexes)

  -- the journal is news
  pub taken_journal : (j' : JournalState) → OnlyAccount old new (with_journal old.account.me.0 j')
      → HasTaken store new st x j'
  taken_journal j' step =
      let v = with_journal old.account.me.0 j' in
      subst (λ (u : PassState × PinState). HasTaken store new u.0 u.1 j') (λ i. (taken.state i, taken.pin i))
      (taken_after store old new v step st x j j' taken (own_journal taken.of.sight j') taken.of.legal refl
      (without_here old.account.me.0.journals 0 j' ∙ taken.alone) taken.cells taken.indexes)

  -- both are
  pub taken_commit : (st' : PassState) (j' : JournalState) → IsLegal store.accounts.config.kind st'.seen
      → OnlyAccount old new (with_commit old.account.me.0 old.number st' j') → HasTaken store new st' x j'
  taken_commit st' j' legal step =
      let v = with_commit old.account.me.0 old.number st' j' in
      let here : state_in v old.number ≡ st' = state_here old.account.me.0 old.number st' [] in
      subst (λ (u : PassState × PinState). HasTaken store new u.0 u.1 j')
      (λ i. (here i, taken.pin i))
      (taken_after store old new v step st x j j' taken (own_commit taken.of.sight st' j')
      (subst (λ (u : PassState). IsLegal store.accounts.config.kind u.seen) (sym here) legal) refl
      (without_here old.account.me.0.journals 0 j' ∙ taken.alone) taken.cells taken.indexes)

-- ---- the journal is taken and given back

-- a latch seat that has taken the journal, and nothing else
module _ (store : Store) (old mid new : Pass) (j : JournalState) where
  pub takes_journal : IsPassOf store old → HoldsNone old
      → mid.number ≡ old.number → mid.buffers ≡ old.buffers → mid.account ≡ old.account
      → IsLatchPass store.latches.table.shared.key.config.passes store.latches.table.shared.key
      store.latches.table.shared.table_id mid.latch
      → number_of mid.latch.me.0 ≡ number_of old.latch.me.0
      → mid.latch.me.1 ≡ (cells_of store.accounts.config + 1, slots.Out) ∷ old.latch.me.1
      → OnlyAccount mid new (with_journal mid.account.me.0 j)
      → HasTaken store new (state_of old) (pin_of old) j
  takes_journal of none number room account latch same slots_are step =
      let sight_was : mid.account.me.0 ≡ old.account.me.0 = (λ i. (account i).me.0) in
      let state_was : state_of mid ≡ state_of old = (λ i. state_in (sight_was i) (number i)) in
      let pin_was : pin_of mid ≡ pin_of old = (λ i. pin_in (sight_was i) (number i)) in
      let own : IsOwnSight mid.number mid.account.me.0 =
      subst (λ (x : ℕ × Sight). IsOwnSight x.0 x.1) (λ i. (sym number i, sym sight_was i)) of.sight in
      let legal : IsLegal store.accounts.config.kind (state_of mid).seen =
      subst (λ (u : PassState). IsLegal store.accounts.config.kind u.seen) (sym state_was) of.legal in
      let mid_of : IsPassOf store mid = record {
        inside = subst (λ n. n < store.accounts.config.passes) (sym number) of.inside;
        latch = latch;
        same = same ∙ of.same ∙ sym number;
        table = (λ i. (account i).table_id) ∙ of.table;
        slots = (λ i. (account i).me.1) ∙ of.slots;
        sight = own;
        legal = legal;
      } in
      let v = with_journal mid.account.me.0 j in
      let journals : mid.account.me.0.journals ≡ [] = (λ i. (sight_was i).journals) ∙ none.contents.journals in
      record {
        of = pass_after store mid new v step mid_of (own_journal own j) legal;
        latch = (λ i. (step.latch i).me.1) ∙ slots_are
            ∙ ap (λ l. (cells_of store.accounts.config + 1, slots.Out) ∷ l) none.latches;
        buffers = step.buffers ∙ room ∙ none.buffers;
        state = state_is store mid new v step ∙ state_was;
        pin = pin_is store mid new v step ∙ pin_was;
        journal = subst (λ (u : Sight). HasJournal u j) (sym (sight_is store mid new v step)) refl;
        alone = (λ i. without 0 (sight_is store mid new v step i).journals)
            ∙ without_here mid.account.me.0.journals 0 j ∙ ap (without 0) journals;
        cells = (λ i. (sight_is store mid new v step i).cells) ∙ (λ i. (sight_was i).cells)
            ∙ none.contents.cells;
        indexes = (λ i. (sight_is store mid new v step i).indexes) ∙ (λ i. (sight_was i).indexes)
            ∙ none.contents.indexes;
      }

-- what lies at the journal's place is a journal
pub journal_slot : (store : Store) (slot : StoreSlot)
    → FitsPlace store.latches.table.shared.key.config store.latches.table.shared.key.seat.table_id
    (cells_of store.accounts.config + 1) slot
    → IsJournalSlot store.accounts.table.shared.table_id slot
journal_slot store slot fits =
    let here = subst (λ (x : Config × TableId). FitsPlace x.0 x.1 (cells_of store.accounts.config + 1) slot)
    (λ i. (store.same.0 i, store.same.1 i)) fits in here.journal refl

-- and a journal may lie there
pub journal_fits : (store : Store) (slot : StoreSlot) → IsJournalSlot store.accounts.table.shared.table_id slot
    → FitsPlace store.latches.table.shared.key.config store.latches.table.shared.key.seat.table_id
    (cells_of store.accounts.config + 1) slot
journal_fits store slot is =
    let here : FitsPlace store.accounts.config store.accounts.table.shared.table_id
    (cells_of store.accounts.config + 1) slot = record {
      cell = λ less. absurd (omega (arith, less));
      index = λ same. absurd (omega (arith, same));
      journal = λ _. is;
    } in
    subst (λ (x : Config × TableId). FitsPlace x.0 x.1 (cells_of store.accounts.config + 1) slot)
    (λ i. (sym store.same.0 i, sym store.same.1 i)) here

-- ---- words that are kept

-- a view that has kept more words
looked_own : (p : ℕ) (v w : Sight) → IsOwnSight p v → HasLooked p v w → IsOwnSight p w
looked_own p v w own h =
    let st : PassState = record (state_in v p) { looks = (state_in w p).looks } in
    let is : state_in w p ≡ st = ap (λ o. unwrap_or o fresh_pass) h.has in
    record {
      has = h.has ∙ ap Some (sym is);
      pin = (λ i. kept_at (h.pins i) p) ∙ own.pin ∙ (λ i. Some (pin_in (record w { pins = sym h.pins i }) p));
      only = λ q other. h.others q other ∙ own.only q other;
      told = h.told ∙ own.told;
      readers = h.readers ∙ own.readers;
    }

-- LOOK
pub pass_has_looked : PassHasLooked
pass_has_looked store old new of looks =
    let p = old.number in
    let v = old.account.me.0 in
    let w = new.account.me.0 in
    let h = looks.looked in
    let st : PassState = record (state_of old) { looks = (state_of new).looks } in
    let is : state_of new ≡ st =
    (λ i. state_in w (looks.number i)) ∙ ap (λ o. unwrap_or o fresh_pass) h.has
    ∙ (λ i. record (state_of old) { looks = (state_in w (sym looks.number i)).looks }) in
    record {
      of = record {
        inside = subst (λ n. n < store.accounts.config.passes) (sym looks.number) of.inside;
        latch = subst (IsLatchPass store.latches.table.shared.key.config.passes store.latches.table.shared.key
            store.latches.table.shared.table_id) (sym looks.latch) of.latch;
        same = (λ i. number_of (looks.latch i).me.0) ∙ of.same ∙ sym looks.number;
        table = looks.table ∙ of.table;
        slots = looks.slots ∙ of.slots;
        sight = subst (λ n. IsOwnSight n w) (sym looks.number) (looked_own p v w of.sight h);
        legal = subst (λ (u : PassState). IsLegal store.accounts.config.kind u.seen) (sym is) of.legal;
      };
      state = is;
      pin = λ i. pin_in (record w { pins = h.pins i }) (looks.number i);
    }

-- ---- a pass comes from a new store and goes back

-- a note of a pass knows that alone
note_own : (p : ℕ) → IsOwnSight p (pass_note p fresh_pass fresh_pin)
note_own p =
    let none : List (ℕ × PassState) = [] in
    let no_pins : List (ℕ × PinState) = [] in record {
      has = kept_here none p fresh_pass ∙ ap (λ o. Some (unwrap_or o fresh_pass)) (sym (kept_here none p fresh_pass));
      pin = kept_here no_pins p fresh_pin
          ∙ ap (λ o. Some (unwrap_or o fresh_pin)) (sym (kept_here no_pins p fresh_pin));
      only = λ q other. kept_else none p fresh_pass q other;
      told = refl;
      readers = refl;
    }

-- NEW
pub new_pass_is_idle : NewPassIsIdle
new_pass_is_idle store p pass inside new =
    let v = pass_note p fresh_pass fresh_pin in
    let none : List (ℕ × PassState) = [] in
    let no_pins : List (ℕ × PinState) = [] in
    let sight : pass.account.me.0 ≡ v = (λ i. (new.account.me i).0) in
    let state : state_of pass ≡ fresh_pass = (λ i. state_in (sight i) (new.number i))
    ∙ ap (λ o. unwrap_or o fresh_pass) (kept_here none p fresh_pass) in
    let pin : pin_of pass ≡ fresh_pin = (λ i. pin_in (sight i) (new.number i))
    ∙ ap (λ o. unwrap_or o fresh_pin) (kept_here no_pins p fresh_pin) in
    let idle : HasNoTxn fresh_pass fresh_pin = record {
      ended = record { stage = refl; own = refl; laid = refl; alone = refl };
      stamped = refl;
      unannounced = refl;
      unnoted = refl;
    } in
    record {
      of = record {
        inside = subst (λ n. n < store.accounts.config.passes) (sym new.number) inside;
        latch = new.latch.of;
        same = new.same ∙ sym new.number;
        table = new.account.table_is;
        slots = λ i. (new.account.me i).1;
        sight = subst (λ (x : ℕ × Sight). IsOwnSight x.0 x.1) (λ i. (sym new.number i, sym sight i)) (note_own p);
        legal = subst (λ (u : PassState). IsLegal store.accounts.config.kind u.seen) (sym state)
            (new_shared store.accounts.config).store.transactions.legal;
      };
      none = record {
        latches = new.latch.none;
        buffers = new.buffers;
        contents = subst HasNoContents (sym sight) (record { cells = refl; indexes = refl; journals = refl });
      };
      idle = subst (λ (u : PassState × PinState). HasNoTxn u.0 u.1) (λ i. (sym state i, sym pin i)) idle;
    }

-- BACK
pub idle_pass_is_back : IdlePassIsBack
idle_pass_is_back store pass idle = record {
  latch = record { of = idle.of.latch; none = idle.none.latches };
  same = idle.of.same;
  account = idle.of.table;
  slots = idle.of.slots;
  state = state_of pass;
  has = idle.of.sight.has;
  stage = idle.idle.ended.stage;
  stamped = idle.idle.stamped;
  only = idle.of.sight.only;
  readers = idle.of.sight.readers;
}

-- what stays over one call stays over two
pub same_then : (a b c : Pass) → IsSamePass a b → IsSamePass b c → IsSamePass a c
same_then a b c first then = record {
  number = then.number ∙ first.number;
  reads = then.reads ∙ first.reads;
}

-- a pass that is as it was has no transaction still
pub idle_stays : (store : Store) (old new : Pass) → IsIdlePass store old → IsPassOf store new → HoldsNone new
    → state_of new ≡ state_of old → pin_of new ≡ pin_of old → IsIdlePass store new
idle_stays store old new idle of none state pin = record {
  of = of;
  none = none;
  idle = subst (λ (u : PassState × PinState). HasNoTxn u.0 u.1) (λ i. (sym state i, sym pin i)) idle.idle;
}

-- and so is its account
pub account_stays : (store : Store) (old new : Pass) → state_of new ≡ state_of old → new.number ≡ old.number
    → GoesOn (account_of_pass store old) (account_of_pass store old) (account_of_pass store new)
account_stays store old new state number =
    let same : account_of_pass store new ≡ account_of_pass store old
    = (λ i. account_of store.accounts.config (number i) (state i)) in
    subst (λ (a : Account). GoesOn (account_of_pass store old) (account_of_pass store old) a) (sym same)
    (record { seen = ([], sym (append-nil (account_of_pass store old).seen)); others = refl })

-- with the journal in hand, by what the pass knows of itself
pub taken_own : (store : Store) (pass : Pass) (st : PassState) (x : PinState) (j : JournalState)
    → HasTaken store pass st x j → HasTaken store pass (state_of pass) (pin_of pass) j
taken_own store pass st x j taken = record {
  of = taken.of;
  latch = taken.latch;
  buffers = taken.buffers;
  state = refl;
  pin = refl;
  journal = taken.journal;
  alone = taken.alone;
  cells = taken.cells;
  indexes = taken.indexes;
}
