-- A pass between two calls, after each call.
use Rattle.std.proofs.Common.{◌≡◌, ℕ, suc, List, [], ◌∷◌, ◌++◌, length, refl, sym, ◌∙◌, ap, subst, arith, append-nil}
use Rattle.std.specs.Prelude.{Option, Some, None, Result, Ok, Err, IfSome, cond}
use Rattle.graph_model.specs.declared.journal.Begun.{Begun}
use Rattle.graph_model.specs.declared.refusal.Cause.TheVariants.{Later, Holder}
use Rattle.graph_model.specs.declared.refusal.Refusal.{Refusal}
use Rattle.graph_model.specs.declared.refusal.Refusal.TheVariants as refusals
use Rattle.graph_model.specs.declared.write.Write.{Write}
use Rattle.graph_model.specs.declared.write.Kind.TheVariants.{Undirected}
use Rattle.graph_model.specs.Account.{Account, IsOpenTxn, IsValid}
use Rattle.graph_model.specs.AccountSteps.{BeginsBy, GoesOn, view_of}
use Rattle.graph_model.specs.Graph.{IsSymmetric}
use Rattle.graph_model.specs.History.{view}
use Rattle.graph_model.specs.Refused.{IsWithinLimits}
use Rattle.graph_model.proofs.AccountLemmas.{begin_keeps}
use Rattle.graph_model.proofs.ViewLemmas.{view_bounded, view_ends, view_symmetric}
use Rattle.txn_manager.specs.declared.config.Config.{Config}
use Rattle.pass_writes.specs.StoreRelationDeclared.stage.Stage.TheVariants.{Open}
use Rattle.pass_writes.specs.StoreRelation.Passes.{PassState, is_active, number_of, start_of}
use Rattle.pass_writes.specs.StoreRelation.Passes.{account_of as state_account}
use Rattle.pass_writes.specs.StoreRelation.Steps.{begun}
use Rattle.pass_writes.proofs.StoreRelation.ListLemmas.{prefix_all, prefix_length, prefix_trans}
use Rattle.pass_writes.proofs.StoreRelation.MadeLemmas.{number_active}
use Rattle.pass_writes.specs.RuleModel.Sight.{PinState}
use Rattle.pass_writes.specs.StoreRuleDeclared.store.Pass.{Pass as Seats}
use Rattle.pass_writes.specs.StoreRuleDeclared.store.Store.{Store}
use Rattle.pass_writes.specs.PassCellsDeclared.taken.TakenCell.{TakenCell}
use Rattle.pass_writes.specs.PassSteps.Passes.{HasOpenTxn, IsOpenPass, IsSamePass, account_of_pass, pin_of, state_of}
use Rattle.pass_writes.specs.PassSteps.Txns.{Begins, Refreshes}
use Rattle.pass_writes.specs.declared.making.Written.{Written}
use Rattle.pass_writes.specs.declared.making.Written.TheVariants.{Done, NeedRoom}
use Rattle.pass_writes.specs.Found.{view_of as state_view}
use Rattle.pass_writes.specs.Hand.{HasNothing}
use Rattle.pass_writes.specs.Scanning.{EndsWithKeys}
use Rattle.pass_writes.specs.Making.{IsOpenIn, Makes, NotesOnly}
use Rattle.shared_store.specs.declared.pass.Pass.{Pass}
use Rattle.shared_store.specs.Passes.{IsIdle, IsOpen, KeepsAll, KeepsOpen, KeepsTxn, account_of, view_in}
use Rattle.shared_store.specs.Writes.{Keeps, SeesLater, WritesOver, later_of, own_after}
use Rattle.shared_store.proofs.EdgeLemmas.{ends_with_keys}
use Rattle.shared_store.proofs.AccountLemmas.{all_over, fresh_valid, made_valid, notes_unknown}

-- ---- the same transaction

keeps_notes : (old new : PassState) → old.laid ≡ old.own → NotesOnly old new → KeepsTxn old new old.own
keeps_notes old new laid e = subst (λ (st : PassState). KeepsTxn old st old.own) (sym e) (record {
  stage = refl;
  start = refl;
  own = refl;
  laid = laid;
  unstamped = refl;
  past = refl;
  seen = prefix_all old.seen;
  readers_out = refl;
})

-- after each answer of a write
pub keeps_made : (z : Config) (p : ℕ) (old new : PassState) (w : Write) (result : Result Written Refusal)
    → old.laid ≡ old.own → Makes z p old w result new → KeepsTxn old new (own_after old.own w result)
keeps_made z p old new w (Ok Done) laid m =
    subst (λ (st : PassState). KeepsTxn old st (old.own ++ w ∷ [])) (sym m.1) (record {
      stage = refl;
      start = refl;
      own = refl;
      laid = ap (λ l. l ++ w ∷ []) laid;
      unstamped = refl;
      past = refl;
      seen = prefix_all old.seen;
      readers_out = refl;
    })
keeps_made z p old new w (Ok (NeedRoom short)) laid m = keeps_notes old new laid m.1
keeps_made z p old new w (Err refusals.SelfLoop) laid m = keeps_notes old new laid m.1
keeps_made z p old new w (Err (refusals.NoVertex q)) laid m = keeps_notes old new laid m.1
keeps_made z p old new w (Err refusals.VertexExists) laid m = keeps_notes old new laid m.1
keeps_made z p old new w (Err refusals.EdgeExists) laid m = keeps_notes old new laid m.1
keeps_made z p old new w (Err refusals.NoEdge) laid m = keeps_notes old new laid m.1
keeps_made z p old new w (Err refusals.HasEdges) laid m = keeps_notes old new laid m.1
keeps_made z p old new w (Err (refusals.Conflict (Later stamp))) laid m =
    subst (λ (st : PassState). KeepsTxn old st old.own) (sym m.2) (record {
      stage = refl;
      start = refl;
      own = refl;
      laid = laid;
      unstamped = refl;
      past = refl;
      seen = prefix_all old.seen;
      readers_out = refl;
    })
keeps_made z p old new w (Err (refusals.Conflict (Holder by))) laid m =
    subst (λ (st : PassState). KeepsTxn old st old.own) (sym m.2) (record {
      stage = refl;
      start = refl;
      own = refl;
      laid = laid;
      unstamped = refl;
      past = refl;
      seen = prefix_all old.seen;
      readers_out = refl;
    })
keeps_made z p old new w (Err (refusals.Full leaves)) laid m = absurd m
keeps_made z p old new w (Err refusals.NoMemory) laid m = keeps_notes old new laid m

-- and after more was seen
pub keeps_fresh : (z : Config) (old mid new : PassState) (ws : List Write) (clock : ℕ) → KeepsTxn old mid ws
    → Refreshes z mid clock new → KeepsTxn old new ws
keeps_fresh z old mid new ws clock kept fresh =
    subst (λ (st : PassState). KeepsTxn old st ws) (sym fresh.is) (record {
      stage = kept.stage;
      start = kept.start;
      own = kept.own;
      laid = kept.laid;
      unstamped = kept.unstamped;
      past = kept.past;
      seen = prefix_trans old.seen mid.seen fresh.commits kept.seen fresh.front;
      readers_out = kept.readers_out;
    })

-- an open transaction stays open
pub open_txn : (old new : PassState) (x y : PinState) (ws : List Write) → HasOpenTxn old x → KeepsTxn old new ws
    → y ≡ x → HasOpenTxn new y
open_txn old new x y ws opened kept pin = record {
  stage = kept.stage ∙ opened.stage;
  laid = kept.laid ∙ sym kept.own;
  started = let was = opened.started in let more = prefix_length old.seen new.seen kept.seen in
      let same = kept.start in omega (arith, was, more, same);
  stamped = kept.unstamped ∙ opened.stamped;
  pinned = ap (λ (u : PinState). u.announced) pin ∙ opened.pinned;
}

number_kept : (old new : PassState) (ws : List Write) → old.stage ≡ Open → KeepsTxn old new ws
    → number_of new ≡ number_of old
number_kept old new ws opened kept =
    number_active new (ap is_active (kept.stage ∙ opened)) ∙ ap (λ l. suc (length l)) kept.past
    ∙ sym (number_active old (ap is_active opened))

-- OPEN STILL
pub stays_open : (store : Store) (old new : Pass) (ws : List Write) → IsOpen store old
    → HasNothing store new.seats new.cells.taken.list.items
    → KeepsTxn (state_of old.seats) (state_of new.seats) ws → pin_of new.seats ≡ pin_of old.seats
    → new.begun ≡ old.begun → new.start ≡ old.start → new.own.items ≡ ws → new.changed.items ≡ ws
    → IsValid (account_of store new) → IsOpen store new
stays_open store old new ws was nothing kept pin number start own changed valid = record {
  opened = record {
    of = nothing.of;
    none = nothing.none;
    opened = open_txn (state_of old.seats) (state_of new.seats) (pin_of old.seats) (pin_of new.seats) ws
        was.opened.opened kept pin;
  };
  alone = kept.readers_out ∙ was.alone;
  cells = nothing.cells;
  begun = number ∙ was.begun
      ∙ sym (number_kept (state_of old.seats) (state_of new.seats) ws was.opened.opened.stage kept);
  start = start ∙ was.start ∙ sym kept.start;
  own = own ∙ sym kept.own;
  changed = changed ∙ sym kept.own;
  valid = valid;
}

-- BEGUN
pub begins_open : (store : Store) (old new : Pass) (answer : Begun) → IsIdle store old
    → IsOpenPass store new.seats → Begins old.seats.number (state_of old.seats) answer (state_of new.seats)
    → new.cells.taken.list.items ≡ old.cells.taken.list.items → new.begun ≡ answer.by.number
    → new.start ≡ answer.start → new.own.items ≡ old.own.items → new.changed.items ≡ old.changed.items
    → BeginsBy (account_of store old) (Ok answer) (account_of store new) → IsOpen store new
begins_open store old new answer was opened begins cells number start own changed account = record {
  opened = opened;
  alone = ap (λ (st : PassState). st.readers_out) is ∙ was.idle.idle.ended.alone;
  cells = cells ∙ was.cells;
  begun = number ∙ (λ i. (begins.by i).number);
  start = start ∙ begins.opens.start_is ∙ sym (ap (λ (st : PassState). st.start) is);
  own = own ∙ was.own ∙ sym none;
  changed = changed ∙ was.changed ∙ sym none;
  valid = begin_keeps (account_of store old) was.valid (Ok answer) (account_of store new) opened.of.legal account;
}
  where
    is : state_of new.seats ≡ begun (state_of old.seats) begins.opens.journal
    is = begins.opens.is

    none : (state_of new.seats).own ≡ []
    none = ap (λ (st : PassState). st.own) is ∙ was.idle.idle.ended.own

-- what a pass has noted of its transaction is what its begin has answered
pub open_in : (store : Store) (pass : Pass) (begun : Begun) → IsOpen store pass
    → begun.by ≡ record { job = pass.seats.number; number = pass.begun } → begun.start ≡ pass.start
    → IsOpenIn begun pass.seats
open_in store pass begun is by start = record {
  opened = is.opened.opened;
  alone = is.alone;
  by = by ∙ (λ i. record { job = pass.seats.number; number = is.begun i });
  start = start ∙ is.start;
}

-- READ: the transaction is the same, and knows what it knew
pub reads_keep : (store : Store) (old new : Pass) → IsOpen store old
    → HasNothing store new.seats new.cells.taken.list.items → NotesOnly (state_of old.seats) (state_of new.seats)
    → pin_of new.seats ≡ pin_of old.seats → IsSamePass old.seats new.seats → new.begun ≡ old.begun
    → new.start ≡ old.start → new.own.items ≡ old.own.items → new.changed.items ≡ old.changed.items
    → KeepsOpen store old new
reads_keep store old new was nothing notes pin same number start own changed = record {
  opened = stays_open store old new (state_of old.seats).own was nothing
      (keeps_notes (state_of old.seats) (state_of new.seats) was.opened.opened.laid notes) pin number start
      (own ∙ was.own) (changed ∙ was.changed) (subst IsValid (sym account) was.valid);
  account = account;
  start = start;
  number = same.number;
}
  where
    account : account_of store new ≡ account_of store old
    account = ap (λ n. state_account store.accounts.config n (state_of new.seats)) same.number
        ∙ notes_unknown store.accounts.config old.seats.number (state_of old.seats) (state_of new.seats) notes

-- ROOM: only its lists have more
pub all_kept : (store : Store) (old new : Pass) → IsOpen store old → KeepsAll old new → IsOpen store new
all_kept store old new was kept = record {
  opened = subst (IsOpenPass store) (sym kept.seats) was.opened;
  alone = (λ i. (state_of (kept.seats i)).readers_out) ∙ was.alone;
  cells = (λ i. (kept.cells i).taken.list.items) ∙ was.cells;
  begun = kept.begun ∙ was.begun ∙ (λ i. number_of (state_of (sym kept.seats i)));
  start = kept.start ∙ was.start ∙ (λ i. (state_of (sym kept.seats i)).start);
  own = kept.own ∙ was.own ∙ (λ i. (state_of (sym kept.seats i)).own);
  changed = kept.changed ∙ was.changed ∙ (λ i. (state_of (sym kept.seats i)).own);
  valid = subst (λ (s : Seats). IsValid (account_of_pass store s)) (sym kept.seats) was.valid;
}

-- MADE: and keeps a write that was made
pub makes_open : (store : Store) (old new : Pass) (w : Write) (result : Result Written Refusal) → IsOpen store old
    → IsWithinLimits w → HasNothing store new.seats new.cells.taken.list.items
    → Makes store.accounts.config old.seats.number (state_of old.seats) w result (state_of new.seats)
    → pin_of new.seats ≡ pin_of old.seats → IsSamePass old.seats new.seats → new.begun ≡ old.begun
    → new.start ≡ old.start → new.own.items ≡ own_after old.own.items w result
    → new.changed.items ≡ own_after old.changed.items w result → IsOpen store new
makes_open store old new w result was limit nothing makes pin same number start own changed =
    stays_open store old new (own_after (state_of old.seats).own w result) was nothing
    (keeps_made store.accounts.config old.seats.number (state_of old.seats) (state_of new.seats) w result
    was.opened.opened.laid makes) pin number start (own ∙ ap (λ l. own_after l w result) was.own)
    (changed ∙ ap (λ l. own_after l w result) was.changed) valid
  where
    valid : IsValid (account_of store new)
    valid = subst (λ n. IsValid (state_account store.accounts.config n (state_of new.seats))) (sym same.number)
        (made_valid store.accounts.config old.seats.number (state_of old.seats) w was.opened.opened.stage was.valid limit
        (state_of new.seats) nothing.of.legal result makes)

-- SEEN: a commit that is named as a cause
pub sees_open : (store : Store) (old new : Pass) (clock : ℕ) → IsOpen store old → IsOpenPass store new.seats
    → Refreshes store.accounts.config (state_of old.seats) clock (state_of new.seats)
    → pin_of new.seats ≡ pin_of old.seats → IsSamePass old.seats new.seats
    → new.cells.taken.list.items ≡ old.cells.taken.list.items → new.begun ≡ old.begun → new.start ≡ old.start
    → new.own.items ≡ old.own.items → new.changed.items ≡ old.changed.items → IsOpen store new
sees_open store old new clock was opened fresh pin same cells number start own changed =
    stays_open store old new (state_of old.seats).own was (record {
      of = opened.of;
      none = opened.none;
      cells = cells ∙ was.cells;
    }) (keeps_fresh store.accounts.config (state_of old.seats) (state_of old.seats) (state_of new.seats)
    (state_of old.seats).own clock
    (keeps_notes (state_of old.seats) (state_of old.seats) was.opened.opened.laid refl) fresh) pin number start
    (own ∙ was.own) (changed ∙ was.changed)
    (subst (λ n. IsValid (state_account store.accounts.config n (state_of new.seats))) (sym same.number)
    (fresh_valid store.accounts.config old.seats.number (state_of old.seats) (state_of new.seats) clock was.valid
    opened.of.legal fresh))

-- OPEN TRANSACTION: what its account says of it
pub open_account : (store : Store) (pass : Pass) → IsOpen store pass
    → IsOpenTxn (account_of store pass) (state_of pass.seats).start
open_account store pass is =
    subst (λ (o : Option ℕ). IfSome o (IsOpenTxn (account_of store pass))) there is.valid.current
  where
    there : start_of (state_of pass.seats) ≡ Some (state_of pass.seats).start
    there i = cond (is_active (is.opened.opened.stage i)) (Some (state_of pass.seats).start) None

-- it sees the same
pub same_view : (store : Store) (old new : Pass) → KeepsOpen store old new → view_in store new ≡ view_in store old
same_view store old new kept i = view_of (kept.account i) (kept.start i)

pub keeps_twice : (store : Store) (a b c : Pass) → KeepsOpen store a b → KeepsOpen store b c → KeepsOpen store a c
keeps_twice store a b c ab bc = record {
  opened = bc.opened;
  account = bc.account ∙ ab.account;
  start = bc.start ∙ ab.start;
  number = bc.number ∙ ab.number;
}

pub keeps_itself : (store : Store) (a : Pass) → IsOpen store a → KeepsOpen store a a
keeps_itself store a opened = record { opened = opened; account = refl; start = refl; number = refl }

-- the same by what its seat knows
pub view_is : (store : Store) (pass : Pass) → IsOpen store pass
    → view_in store pass ≡ state_view store.accounts.config.kind (state_of pass.seats)
view_is store pass is i =
    view store.accounts.config.kind (state_of pass.seats).seen (is.start i) (state_of pass.seats).own

-- ENDS: it has no row from the last key on
pub view_ends_with_keys : (store : Store) (pass : Pass) → IsOpen store pass
    → EndsWithKeys (state_view store.accounts.config.kind (state_of pass.seats))
view_ends_with_keys store pass is =
    let t = open_account store pass is in
    let st = state_of pass.seats in
    let kind = store.accounts.config.kind in
    ends_with_keys (state_view kind st)
    (view_bounded kind st.seen st.start st.own is.valid.legal t.seen t.within)
    (view_ends kind st.seen st.start st.own is.valid.legal t.seen t.allowed)

pub view_has_end : (store : Store) (pass : Pass) → IsOpen store pass → EndsWithKeys (view_in store pass)
view_has_end store pass is =
    subst EndsWithKeys (sym (view_is store pass is)) (view_ends_with_keys store pass is)

-- without direction it goes both ways
pub view_both_ways : (store : Store) (pass : Pass) → store.accounts.config.kind ≡ Undirected
    → IsSymmetric (view_in store pass)
view_both_ways store pass e =
    let st = state_of pass.seats in
    subst (λ k. IsSymmetric (view k st.seen pass.start st.own)) (sym e) (view_symmetric st.seen pass.start st.own)

-- ---- a write, step by step

pub reserved_keeps : (store : Store) (old new : Pass) → IsOpen store old → KeepsAll old new → KeepsOpen store old new
reserved_keeps store old new opened kept = record {
  opened = all_kept store old new opened kept;
  account = λ i. account_of_pass store (kept.seats i);
  start = kept.start;
  number = λ i. (kept.seats i).number;
}

-- MADE, and kept if it was
pub makes_kept : (store : Store) (old mid new : Pass) (w : Write) (result : Result Written Refusal) → IsOpen store old
    → IsWithinLimits w → HasNothing store mid.seats mid.cells.taken.list.items
    → Makes store.accounts.config old.seats.number (state_of old.seats) w result (state_of mid.seats)
    → pin_of mid.seats ≡ pin_of old.seats → IsSamePass old.seats mid.seats → mid.begun ≡ old.begun
    → mid.start ≡ old.start → mid.own.items ≡ old.own.items → mid.changed.items ≡ old.changed.items
    → Keeps mid w result new → IsOpen store new
makes_kept store old mid new w result was limit nothing makes pin same number start own changed keeps =
    makes_open store old new w result was limit
    (subst (λ (s : Seats). HasNothing store s new.cells.taken.list.items) (sym keeps.seats)
    (subst (λ (l : List TakenCell). HasNothing store mid.seats l) (λ i. (sym keeps.cells i).taken.list.items) nothing))
    (subst (λ (s : Seats). Makes store.accounts.config old.seats.number (state_of old.seats) w result (state_of s))
    (sym keeps.seats) makes)
    ((λ i. pin_of (keeps.seats i)) ∙ pin)
    (subst (λ (s : Seats). IsSamePass old.seats s) (sym keeps.seats) same)
    (keeps.begun ∙ number) (keeps.start ∙ start)
    (keeps.own ∙ ap (λ l. own_after l w result) own) (keeps.changed ∙ ap (λ l. own_after l w result) changed)

-- OVER: what it does to its account
pub wrote_over : (store : Store) (old mid made new : Pass) (w : Write) (result : Result Written Refusal)
    → KeepsOpen store old mid
    → Makes store.accounts.config mid.seats.number (state_of mid.seats) w result (state_of made.seats)
    → SeesLater store.accounts.config (state_of made.seats) w (later_of result) (state_of new.seats)
    → new.seats.number ≡ mid.seats.number → WritesOver (account_of store old) w result (account_of store new)
wrote_over store old mid made new w result kept makes seen number =
    subst (λ a. WritesOver a w result (account_of store new)) kept.account
    (subst (λ n. WritesOver (account_of store mid) w result (state_account store.accounts.config n (state_of new.seats)))
    (sym number)
    (all_over store.accounts.config mid.seats.number (state_of mid.seats) w kept.opened.opened.opened.stage result
    (state_of made.seats) (state_of new.seats) makes seen))

-- without memory nothing is made
pub memory_refused : (old new : Account) (w : Write) → new ≡ old → WritesOver old w (Err refusals.NoMemory) new
memory_refused old new w same = λ start at.
    subst (GoesOn old old) (sym same) (record { seen = ([], sym (append-nil old.seen)); others = refl })
