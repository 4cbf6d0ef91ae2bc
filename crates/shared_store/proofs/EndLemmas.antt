-- How a transaction ends.
use Rattle.std.proofs.Common.{◌≡◌, ℕ, ◌+◌, List, [], ◌++◌, length, refl, sym, ◌∙◌, ap, append_assoc, subst}
use Rattle.std.specs.Prelude.{true, false, Option, Some, None, IfSome, IfNone}
use Rattle.std.specs.List.{AllByRecursion}
use Rattle.graph_model.specs.declared.journal.TxnName.{TxnName}
use Rattle.graph_model.specs.declared.write.Write.{Write}
use Rattle.graph_model.specs.Account.{Account}
use Rattle.graph_model.specs.AccountSteps.{AbortsBy, CommitsBy, GoesOn, ReadsBy}
use Rattle.graph_model.specs.AccountSteps.{ended as account_ended, stamped as account_stamped}
use Rattle.graph_model.specs.Legal.{IsLegal}
use Rattle.graph_model.specs.Refused.{IsWithinLimits}
use Rattle.graph_model.proofs.AccountLemmas.{commit_keeps}
use Rattle.txn_manager.specs.declared.config.Config.{Config}
use Rattle.pass_writes.specs.StoreRelationDeclared.stage.Stage.TheVariants.{Open}
use Rattle.pass_writes.specs.StoreRelation.Keys.{has_key}
use Rattle.pass_writes.specs.StoreRelation.Passes.{PassState, is_active, number_of}
use Rattle.pass_writes.specs.StoreRelation.Passes.{account_of as state_account}
use Rattle.pass_writes.specs.StoreRelation.Steps.{committed, ended, stopped, taken_back, with_entry, with_unstamped}
use Rattle.pass_writes.proofs.StoreRelation.AccountLemmas.{account_aborts}
use Rattle.pass_writes.proofs.StoreRelation.ListLemmas.{prefix_all, prefix_get}
use Rattle.pass_writes.proofs.StoreRelation.MadeLemmas.{made_active, made_ended}
use Rattle.pass_writes.specs.RuleModel.Sight.{PinState, with_pass, with_pin, with_rows}
use Rattle.pass_writes.specs.StoreRule.Passes.{OnlyAccount}
use Rattle.pass_writes.specs.StoreRuleDeclared.store.Pass.{Pass as Seats}
use Rattle.pass_writes.specs.StoreRuleDeclared.store.Store.{Store}
use Rattle.pass_writes.specs.PassSteps.Passes.{HasEnded, HasNoTxn, HoldsNone, IsEndedPass, IsIdlePass, IsPassOf, account_of_pass, pin_of, state_of}
use Rattle.pass_writes.specs.PassSteps.Txns.{CommitsAs, HasCommitted}
use Rattle.pass_writes.proofs.PassSteps.PassLemmas.{none_after, pass_after, pass_is_stepped, pin_is, state_is}
use Rattle.pass_writes.proofs.PassSteps.SightLemmas.{own_pin, pin_here, state_here}
use Rattle.pass_writes.specs.Ending.{AreLeft}
use Rattle.shared_store.specs.declared.pass.Pass.{Pass}
use Rattle.shared_store.specs.Passes.{IsIdle, IsOpen, MayStamp, account_of}
use Rattle.shared_store.proofs.PassLemmas.{open_account}

-- ---- one step with nothing in hand

-- the pass has stepped to this state
pub record IsSteppedNone (store : Store) (old new : Seats) (st : PassState) : Type 0 where
  pub of : IsPassOf store new
  pub none : HoldsNone new
  pub state : state_of new ≡ st
  pub pin : pin_of new ≡ pin_of old
  pub number : new.number ≡ old.number

pub steps_none : (store : Store) (old new : Seats) (st : PassState) → IsPassOf store old → HoldsNone old
    → IsLegal store.accounts.config.kind st.seen
    → OnlyAccount old new (with_pass old.account.me.0 old.number st) → IsSteppedNone store old new st
steps_none store old new st of none legal step =
    let stepped = pass_is_stepped store old new st [] of legal step in
    record {
      of = stepped.of;
      none = none_after store old new (with_rows old.account.me.0 old.number st []) step none (record {
        cells = none.contents.cells;
        indexes = none.contents.indexes;
        journals = none.contents.journals;
      });
      state = stepped.state;
      pin = stepped.pin;
      number = step.number;
    }

-- ---- unpinned

module _ (store : Store) (old new : Seats) (step : OnlyAccount old new (with_pin old.account.me.0 old.number
    (record (pin_of old) { announced = false; noted = [] }))) where
  abbrev unpinned : PinState
  unpinned = record (pin_of old) { announced = false; noted = [] }

  pub unpin_state : state_of new ≡ state_of old
  unpin_state = state_is store old new _ step

  unpin_pin : pin_of new ≡ unpinned
  unpin_pin = pin_is store old new _ step ∙ pin_here old.account.me.0 old.number unpinned

  pub unpin_account : account_of_pass store new ≡ account_of_pass store old
  unpin_account i = state_account store.accounts.config (step.number i) (unpin_state i)

  -- UNPINNED: a pass whose rows are stamped has no transaction then
  pub unpins : IsPassOf store old → HoldsNone old → HasEnded (state_of old) → (state_of old).unstamped ≡ []
      → IsIdlePass store new
  unpins of none over stamped = record {
    of = pass_after store old new _ step of (own_pin of.sight unpinned) of.legal;
    none = none_after store old new _ step none (record {
      cells = none.contents.cells;
      indexes = none.contents.indexes;
      journals = none.contents.journals;
    });
    idle = subst (λ (u : PassState × PinState). HasNoTxn u.0 u.1) (λ i. (sym unpin_state i, sym unpin_pin i))
        (record {
          ended = over;
          stamped = stamped;
          unannounced = refl;
          unnoted = refl;
        });
  }

-- ---- commit

-- the number of the transaction is the same, and its changed rows are left to be stamped
pub number_committed : (z : Config) (p : ℕ) (old new : PassState) (stamp : Option ℕ) → old.stage ≡ Open
    → CommitsAs z p old stamp new → number_of new ≡ number_of old
number_committed z p old new None opened commits =
    ap number_of commits.1 ∙ ap length (made_ended old None (ap is_active opened))
number_committed z p old new (Some stamp) opened commits =
    ap number_of commits.1.is
    ∙ ap length (made_ended old (Some (length (with_entry commits.1.journal p old).commits + 1)) (ap is_active opened))

pub left_to_stamp : (z : Config) (p : ℕ) (old new : PassState) (stamp : Option ℕ) → old.unstamped ≡ []
    → CommitsAs z p old stamp new → AreLeft z.kind old.own new.unstamped
left_to_stamp z p old new None none commits q has =
    let no : false ≡ true = sym (ap (λ l. has_key l q) ((λ i. (commits.1 i).unstamped) ∙ none)) ∙ has in
    cc
left_to_stamp z p old new (Some stamp) none commits q has =
    sym (ap (λ l. has_key l q) (λ i. (commits.1.is i).unstamped)) ∙ has

pub none_unstamped : (z : Config) (p : ℕ) (old new : PassState) (stamp : Option ℕ) → old.unstamped ≡ []
    → CommitsAs z p old stamp new → IfNone stamp (new.unstamped ≡ [])
none_unstamped z p old new None none commits = (λ i. (commits.1 i).unstamped) ∙ none
none_unstamped z p old new (Some stamp) none commits = tt

-- within their limits
pub own_within : (store : Store) (pass : Pass) → IsOpen store pass
    → AllByRecursion IsWithinLimits (state_of pass.seats).own
own_within store pass is = (open_account store pass is).within

-- MAY STAMP: after a commit
pub may_stamp : (store : Store) (old new : Pass) (by : TxnName) (stamp : Option ℕ) → IsOpen store old
    → IsEndedPass store new.seats
    → CommitsAs store.accounts.config old.seats.number (state_of old.seats) stamp (state_of new.seats)
    → IfSome stamp (λ c. HasCommitted new.seats.number (state_of new.seats) c)
    → by ≡ record { job = old.seats.number; number = old.begun } → new.seats.number ≡ old.seats.number
    → new.cells.taken.list.items ≡ old.cells.taken.list.items → new.changed.items ≡ old.changed.items
    → MayStamp store new by stamp
may_stamp store old new by stamp was ended commits committed by_is number cells changed = record {
  ended = ended;
  cells = cells ∙ was.cells;
  name = by_is ∙ (λ i. record { job = sym number i; number = (was.begun ∙ sym same) i });
  committed = committed;
  left = subst (λ (ws : List Write). AreLeft z.kind ws (state_of new.seats).unstamped) (sym (changed ∙ was.changed))
      (left_to_stamp z old.seats.number (state_of old.seats) (state_of new.seats) stamp was.opened.opened.stamped
      commits);
  none = none_unstamped z old.seats.number (state_of old.seats) (state_of new.seats) stamp was.opened.opened.stamped
      commits;
  within = subst (AllByRecursion IsWithinLimits) (sym (changed ∙ was.changed)) (own_within store old was);
}
  where
    z : Config
    z = store.accounts.config

    same : number_of (state_of new.seats) ≡ number_of (state_of old.seats)
    same = number_committed z old.seats.number (state_of old.seats) (state_of new.seats) stamp
        was.opened.opened.stage commits

-- a pass without rows to stamp has stamped all
pub all_stamped : (st : PassState) → st.unstamped ≡ [] → st ≡ with_unstamped st []
all_stamped st none i = with_unstamped st (none i)

-- its account doesn't tell which rows are stamped
pub stamped_account : (store : Store) (old new : Seats) → state_of new ≡ with_unstamped (state_of old) []
    → new.number ≡ old.number → account_of_pass store new ≡ account_of_pass store old
stamped_account store old new state number i = state_account store.accounts.config (number i) (state i)

pub stamped_ended : (store : Store) (new : Seats) (st : PassState) → IsPassOf store new → HoldsNone new → HasEnded st
    → state_of new ≡ with_unstamped st [] → IsEndedPass store new
stamped_ended store new st of none ended state = record {
  of = of;
  none = none;
  ended = subst HasEnded (sym state) (record {
    stage = ended.stage;
    own = ended.own;
    laid = ended.laid;
    alone = ended.alone;
  });
}

-- more of the journal may be seen after a call
goes_reads : (old changed mid new : Account) → GoesOn old changed mid → ReadsBy mid new → GoesOn old changed new
goes_reads old changed mid new goes reads = record {
  seen = (
    goes.seen.0 ++ reads.seen.0,
    reads.seen.1 ∙ ap (λ l. l ++ reads.seen.0) goes.seen.1 ∙ append_assoc old.seen goes.seen.0 reads.seen.0,
  );
  others = reads.others ∙ (λ i. record (goes.others i) { seen = new.seen });
}

-- so too after a commit
pub commits_on : (old mid new : Account) (stamp : Option ℕ) → CommitsBy old stamp mid → ReadsBy mid new
    → CommitsBy old stamp new
commits_on old mid new None commits reads = (commits.0, goes_reads old (account_ended old) mid new commits.1 reads)
commits_on old mid new (Some stamp) commits reads = (
  (λ start is.
      let had = commits.0 start is in
      record {
        wrote = had.wrote;
        place = had.place;
        commit = had.commit;
        at = prefix_get mid.seen new.seen (reads.seen.0, sym reads.seen.1) had.place had.commit had.at;
        stamped = had.stamped;
        begun = had.begun;
        by = had.by;
        writes = had.writes;
      }),
  goes_reads old (account_stamped old stamp) mid new commits.1 reads,
)

-- IDLE: after a commit
pub commits_idle : (store : Store) (old new : Pass) (stamp : Option ℕ) → IsOpen store old
    → IsIdlePass store new.seats → CommitsBy (account_of store old) stamp (account_of store new)
    → new.cells.taken.list.items ≡ [] → new.begun ≡ old.begun
    → number_of (state_of new.seats) ≡ number_of (state_of old.seats) → new.own.items ≡ [] → new.changed.items ≡ []
    → IsIdle store new
commits_idle store old new stamp was idle commits cells begun number own changed = record {
  idle = idle;
  cells = cells;
  begun = begun ∙ was.begun ∙ sym number;
  own = own;
  changed = changed;
  valid = commit_keeps (account_of store old) was.valid stamp (account_of store new) idle.of.legal commits;
}

-- ---- abort

-- the state after an abort
abbrev pub after_abort : PassState → PassState
after_abort st = ended (taken_back (stopped st) []) None

pub abort_account : (z : Config) (p : ℕ) (st st' : PassState) → st.stage ≡ Open → st' ≡ after_abort st
    → AbortsBy (state_account z p st) (state_account z p st')
abort_account z p st st' opened is =
    subst (λ (u : PassState). AbortsBy (state_account z p st) (state_account z p u)) (sym is)
    (account_aborts z p st (after_abort st) (record {
      opened = opened;
      idle = refl;
      past = refl;
      own = refl;
      seen = prefix_all st.seen;
      sighted = refl;
      filled = refl;
    }))

pub number_aborted : (st : PassState) → st.stage ≡ Open → number_of (after_abort st) ≡ number_of st
number_aborted st opened =
    ap length (made_ended (taken_back (stopped st) []) None refl ∙ sym (made_active st (ap is_active opened)))

-- step by step
pub aborted_state : (store : Store) (s0 s1 s2 s3 s4 : Seats)
    → OnlyAccount s0 s1 (with_pass s0.account.me.0 s0.number (stopped (state_of s0)))
    → state_of s2 ≡ taken_back (state_of s1) []
    → OnlyAccount s2 s3 (with_pass s2.account.me.0 s2.number (ended (state_of s2) None))
    → OnlyAccount s3 s4 (with_pin s3.account.me.0 s3.number (record (pin_of s3) { announced = false; noted = [] }))
    → state_of s4 ≡ after_abort (state_of s0)
aborted_state store s0 s1 s2 s3 s4 stop undone over unpin =
    unpin_state store s3 s4 unpin ∙ state_is store s2 s3 _ over
    ∙ state_here s2.account.me.0 s2.number (ended (state_of s2) None) []
    ∙ ap (λ u. ended u None) (undone ∙ ap (λ u. taken_back u []) (state_is store s0 s1 _ stop
    ∙ state_here s0.account.me.0 s0.number (stopped (state_of s0)) []))

-- ABORTS
pub aborts_account : (store : Store) (old : Pass) (new : Seats) → IsOpen store old
    → state_of new ≡ after_abort (state_of old.seats) → new.number ≡ old.seats.number
    → AbortsBy (account_of store old) (account_of_pass store new)
aborts_account store old new was state number =
    subst (λ n. AbortsBy (account_of store old) (state_account store.accounts.config n (state_of new))) (sym number)
    (abort_account store.accounts.config old.seats.number (state_of old.seats) (state_of new)
    was.opened.opened.stage state)
