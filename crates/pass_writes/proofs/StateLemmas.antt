-- What the steps of a read, a write, an undo and a stamping leave of the state of their pass.
use Rattle.std.proofs.Common.{◌≡◌, inl, inr, ℕ, zero, suc, ◌+◌, ◌-◌, ◌≤◌, List, [], ◌∷◌, ◌++◌, take, drop, length, length-append, take_all, refl, sym, ◌∙◌, ap, subst, cond, arith}
use Rattle.std.specs.Prelude.{Bool, true, false, ◌&&◌, ◌||◌, not, Option, Some, Err, slice_get}
use Rattle.std.proofs.lemmas.Bool.{or_left, or_right, true≢false}
use Rattle.epoch_reclaim.specs.declared.sweep.Sweep.{Sweep}
use Rattle.graph_model.specs.declared.journal.Begun.{Begun}
use Rattle.graph_model.specs.declared.journal.TxnName.{TxnName}
use Rattle.graph_model.specs.declared.refusal.Cause.{Cause}
use Rattle.graph_model.specs.declared.refusal.Cause.TheVariants.{Later, Holder}
use Rattle.graph_model.specs.declared.refusal.Refusal.{Refusal}
use Rattle.graph_model.specs.declared.refusal.Refusal.TheVariants as refusals
use Rattle.graph_model.specs.declared.row.Key.{Key}
use Rattle.graph_model.specs.declared.write.Kind.{Kind}
use Rattle.graph_model.specs.declared.write.Write.{Write}
use Rattle.graph_model.specs.declared.write.Write.TheVariants.{AddVertex, DropVertex, AddEdge, SetEdge, DropEdge}
use Rattle.graph_model.specs.Effects.{keys_of, same_key}
use Rattle.graph_model.specs.Legal.{IsLegal}
use Rattle.graph_model.proofs.TestLemmas.{either_of, self_eq}
use Rattle.store_model.proofs.LookedLemmas.{same_key_eq}
use Rattle.txn_manager.specs.declared.config.Config.{Config}
use Rattle.pass_prunes.specs.RowWrites.Written.{rows_of, touched_keys}
use Rattle.pass_prunes.proofs.RowWrites.WrittenLemmas.{keys_are}
use Rattle.pass_prunes.specs.StoreRelation.Keys.{changed_keys, ends_of, has_key}
use Rattle.pass_prunes.specs.StoreRelation.Passes.{PassState, name_at}
use Rattle.pass_prunes.specs.StoreRelation.Readers.{reader_of}
use Rattle.pass_prunes.specs.StoreRelation.Steps.{meeting, sighting, with_holder, with_meeting, with_sighting}
use Rattle.pass_prunes.specs.StoreRelation.Words.{Look}
use Rattle.pass_prunes.specs.CellsModel.Cells.{CellState}
use Rattle.pass_prunes.specs.RuleModel.NoteSteps.{LearnsRows}
use Rattle.pass_prunes.specs.RuleModel.Sight.{PinState, Sight, with_pass, with_rows}
use Rattle.pass_prunes.specs.StoreRule.Passes.{OnlyAccount}
use Rattle.pass_prunes.specs.StoreRuleDeclared.store.Pass.{Pass}
use Rattle.pass_prunes.specs.StoreRuleDeclared.store.Store.{Store}
use Rattle.pass_prunes.specs.PassCells.Changes.{keys_beside}
use Rattle.pass_prunes.specs.PassCellsDeclared.taken.TakenCell.{TakenCell}
use Rattle.pass_prunes.specs.PassCells.Holding.{Holds}
use Rattle.pass_prunes.specs.PassSteps.Asking.{HasLooked, IsSnapshotOf, KnowsLooks}
use Rattle.pass_prunes.specs.PassSteps.Txns.{HasCommitted}
use Rattle.pass_prunes.specs.PassSteps.Passes.{IsSamePass, pin_of, reader_of_pass, state_in, state_of}
use Rattle.pass_prunes.proofs.PassSteps.PassLemmas.{pass_after, pass_has_looked, pass_is_stepped, pin_is, sight_is, state_is}
use Rattle.pass_prunes.proofs.PassSteps.SightLemmas.{own_rows, state_here}
use Rattle.pass_settles.specs.Settled.{IsSettling, StampsKeys}
use Rattle.pass_writes.specs.Ending.{AreLeft, AreStampedTo, LeavesRows, keys_changed}
use Rattle.pass_writes.specs.Found.{Finds}
use Rattle.pass_writes.specs.Hand.{HasInHand}
use Rattle.pass_writes.specs.Making.{IsOpenIn, Makes, NotesOnly, after_note, after_refusal, noted}
use Rattle.pass_writes.proofs.HandLemmas.{stays_in_hand}

-- ---- one step with cells in hand

-- a pass that has stepped: it has these cells in hand, and this state
pub record IsStepped (store : Store) (old new : Pass) (ts : List TakenCell) (st : PassState) : Type 0 where
  pub hand : HasInHand store new ts
  pub state : state_of new ≡ st
  pub pin : pin_of new ≡ pin_of old
  pub same : IsSamePass old new

-- LEARNT: nothing was learnt beside what was told
pub learnt_steps : (store : Store) (old new : Pass) (ts : List TakenCell) → HasInHand store old ts
    → OnlyAccount old new old.account.me.0 → IsStepped store old new ts (state_of old)
learnt_steps store old new ts hand step =
    let sight = sight_is store old new old.account.me.0 step in
    record {
      hand = stays_in_hand store old new ts hand
          (pass_after store old new old.account.me.0 step hand.of hand.of.sight hand.of.legal) step.latch step.buffers
          (λ i. (sight i).cells) (λ i. (sight i).indexes) (λ i. (sight i).journals);
      state = state_is store old new old.account.me.0 step;
      pin = pin_is store old new old.account.me.0 step;
      same = record { number = step.number; reads = λ i. (sight i).reads };
    }

-- LOOKED: words were found
pub looked_steps : (store : Store) (old new : Pass) (ts : List TakenCell) → HasInHand store old ts
    → KnowsLooks old.account.me.0 old new
    → IsStepped store old new ts (record (state_of old) { looks = (state_of new).looks })
looked_steps store old new ts hand looks =
    let stepped = pass_has_looked store old new hand.of looks in
    record {
      hand = stays_in_hand store old new ts hand stepped.of looks.latch looks.buffers looks.looked.cells
          looks.looked.indexes
          looks.looked.journals;
      state = stepped.state;
      pin = stepped.pin;
      same = record { number = looks.number; reads = looks.looked.reads };
    }

-- KNOWN: rows have changed, and the view knows it
pub known_steps : (store : Store) (old new : Pass) (ts us : List TakenCell) → HasInHand store old ts
    → Holds store new us → (st : PassState) (cells : List (ℕ × CellState)) → st.seen ≡ (state_of old).seen
    → OnlyAccount old new (with_rows old.account.me.0 old.number st cells) → IsStepped store old new us st
known_steps store old new ts us hand holds st cells seen step =
    let stepped = pass_is_stepped store old new st cells hand.of
    (subst (IsLegal store.accounts.config.kind) (sym seen) hand.of.legal) step in
    let sight = sight_is store old new (with_rows old.account.me.0 old.number st cells) step in
    record {
      hand = record {
        of = stepped.of;
        holds = holds;
        journals = (λ i. (sight i).journals) ∙ hand.journals;
      };
      state = stepped.state;
      pin = stepped.pin;
      same = record { number = step.number; reads = λ i. (sight i).reads };
    }

pub same_again : (a b c : Pass) → IsSamePass a b → IsSamePass b c → IsSamePass a c
same_again a b c ab bc = record { number = bc.number ∙ ab.number; reads = bc.reads ∙ ab.reads }

-- ---- what is told of a state

-- what was learnt of rows holds of a pass with the same view
pub learnt_still : (z : Config) (old new : Pass) (clock : ℕ) → OnlyAccount old new old.account.me.0
    → LearnsRows z old.account.me.0 (reader_of_pass old) clock
    → LearnsRows z new.account.me.0 (reader_of_pass new) clock
learnt_still z old new clock step learnt =
    subst (λ (x : ℕ × Sight). LearnsRows z x.1 (reader_of (λ _. state_in x.1 x.0) x.0) clock)
    (λ i. (sym step.number i, (sym step.account.me i).0)) learnt

-- the snapshot of a transaction, by what its begin has answered
pub snapshot_of : (pass new : Pass) (begun : Begun) → IsOpenIn begun pass → IsSamePass pass new
    → state_of new ≡ state_of pass → IsSnapshotOf new (record { start = begun.start; own = begun.by })
snapshot_of pass new begun opened same state = record {
  start = opened.start ∙ (λ i. (sym state i).start);
  own = opened.by ∙ (λ i. name_at (sym same.number i) (sym state i));
  within = subst (λ (st : PassState). st.start ≤ length st.seen) (sym state) opened.opened.started;
}

-- only notes have changed
pub notes_only : (old new : PassState) (ls : List Look) → new ≡ record old { looks = ls } → NotesOnly old new
notes_only old new ls e =
    e ∙ (λ i. record old { met = (sym e i).met; holders = (sym e i).holders; looks = (sym e i).looks })

-- ---- whom a write meets

-- NOTE: of who stands against a write
pub note_steps : (store : Store) (old new : Pass) (ts : List TakenCell) (w : Write) (cause : Cause)
    → HasInHand store old ts → OnlyAccount old new (noted old.number w cause old.account.me.0)
    → IsStepped store old new ts (after_note w cause (state_of old))
note_steps store old new ts w (Later stamp) hand step =
    let v = old.account.me.0 in
    let st : PassState = with_meeting (state_of old) (meeting w (stamp - 1)) in
    let stepped = pass_is_stepped store old new st [] hand.of hand.of.legal step in
    let sight = sight_is store old new (with_pass v old.number st) step in
    record {
      hand = stays_in_hand store old new ts hand stepped.of step.latch step.buffers (λ i. (sight i).cells)
          (λ i. (sight i).indexes)
          (λ i. (sight i).journals);
      state = stepped.state;
      pin = stepped.pin;
      same = record { number = step.number; reads = λ i. (sight i).reads };
    }
note_steps store old new ts w (Holder by) hand step =
    let v = old.account.me.0 in
    let p = old.number in
    let x = sighting by w (state_of old).start in
    let found : PassState = with_holder (state_of old) x in
    let named : PassState = with_sighting found x in
    let mid = with_pass v p found in
    let here : state_in (with_pass mid p named) p ≡ named = state_here mid p named [] in
    let sight = sight_is store old new (with_pass mid p named) step in
    let of = pass_after store old new (with_pass mid p named) step hand.of
    (own_rows (own_rows hand.of.sight found []) named [])
    (subst (λ (u : PassState). IsLegal store.accounts.config.kind u.seen) (sym here) hand.of.legal) in
    record {
      hand = stays_in_hand store old new ts hand of step.latch step.buffers (λ i. (sight i).cells)
          (λ i. (sight i).indexes)
          (λ i. (sight i).journals);
      state = state_is store old new (with_pass mid p named) step ∙ here;
      pin = pin_is store old new (with_pass mid p named) step;
      same = record { number = step.number; reads = λ i. (sight i).reads };
    }

-- NOTED
pub note_makes : (z : Config) (v : Sight) (p : ℕ) (old new : PassState) (w : Write) (ls : List Look) (cause : Cause)
    → Finds z v p (record old { looks = ls }) w (Err (refusals.Conflict cause))
    → new ≡ after_note w cause (record old { looks = ls }) → Makes z p old w (Err (refusals.Conflict cause)) new
note_makes z v p old new w ls (Later stamp) found e = (
  found.allowed,
  found.behind,
  e ∙ (λ i. record old { met = meeting w (stamp - 1) ∷ old.met; looks = (sym e i).looks }),
)
note_makes z v p old new w ls (Holder by) found e = (
  found.allowed,
  found.other,
  e ∙ (λ i. record (with_sighting old (sighting by w old.start)) {
    met = (sym e i).met;
    holders = (sym e i).holders;
    looks = (sym e i).looks;
  }),
)

-- REFUSED
pub refused_makes : (z : Config) (v : Sight) (p : ℕ) (old new : PassState) (w : Write) (ls : List Look)
    (refusal : Refusal) → Finds z v p (record old { looks = ls }) w (Err refusal)
    → new ≡ after_refusal w refusal (record old { looks = ls }) → Makes z p old w (Err refusal) new
refused_makes z v p old new w ls refusals.SelfLoop found e = (found, notes_only old new ls e)
refused_makes z v p old new w ls (refusals.NoVertex q) found e = (found, notes_only old new ls e)
refused_makes z v p old new w ls refusals.VertexExists found e = (found, notes_only old new ls e)
refused_makes z v p old new w ls refusals.EdgeExists found e = (found, notes_only old new ls e)
refused_makes z v p old new w ls refusals.NoEdge found e = (found, notes_only old new ls e)
refused_makes z v p old new w ls refusals.HasEdges found e = (found, notes_only old new ls e)
refused_makes z v p old new w ls (refusals.Conflict cause) found e = note_makes z v p old new w ls cause found e
refused_makes z v p old new w ls (refusals.Full leaves) found e = absurd found
refused_makes z v p old new w ls refusals.NoMemory found e = absurd found

-- ---- an undo

some_same : {X : Type 0} (a b : X) → ◌≡◌ {A = Option X} (Some a) (Some b) → b ≡ a
some_same a b e = cc

pub cut_last : {X : Type 0} (xs : List X) (i : ℕ) (x : X) → slice_get xs i ≡ Some x
    → take (suc i) xs ≡ take i xs ++ x ∷ []
cut_last [] i x at = cc
cut_last (y ∷ xs) zero x at = ap (λ b. b ∷ []) (sym (some_same y x at))
cut_last (y ∷ xs) (suc i) x at = ap (λ l. y ∷ l) (cut_last xs i x at)

front_of : {X : Type 0} (xs : List X) (x : X) → take (length xs) (xs ++ x ∷ []) ≡ xs
front_of [] x = refl
front_of (y ∷ xs) x = ap (λ l. y ∷ l) (front_of xs x)

pub but_last : {X : Type 0} (xs : List X) (x : X) → take (length (xs ++ x ∷ []) - 1) (xs ++ x ∷ []) ≡ xs
but_last xs x =
    let long : length (xs ++ x ∷ []) ≡ length xs + 1 = length-append xs (x ∷ []) in
    let less : length (xs ++ x ∷ []) - 1 ≡ length xs = omega (arith, long) in
    ap (λ n. take n (xs ++ x ∷ [])) less ∙ front_of xs x

-- ---- the rows of a commit

key_self : (k : Key) → same_key k k ≡ true
key_self k = λ i. self_eq k.src i && self_eq k.second i

-- no key is left where none of nothing is
pub none_left : (kind : Kind) (keys : List Key) → AreLeft kind [] keys → keys ≡ []
none_left kind [] left = refl
none_left kind (k ∷ keys) left =
    absurd (true≢false (sym (left k (or_left _ _ (key_self k)))))

has_append : (xs ys : List Key) (q : Key) → has_key (xs ++ ys) q ≡ (has_key xs q || has_key ys q)
has_append [] ys q = refl
has_append (x ∷ xs) ys q = by_test (same_key q x) (has_append xs ys q)
  where
    by_test : (t : Bool) → has_key (xs ++ ys) q ≡ (has_key xs q || has_key ys q)
        → (t || has_key (xs ++ ys) q) ≡ ((t || has_key xs q) || has_key ys q)
    by_test true rest = refl
    by_test false rest = rest

-- the keys that a write changes are those of its rows
changes_are : (kind : Kind) (w : Write) → keys_changed kind w ≡ keys_of kind w ++ ends_of w
changes_are kind w = λ i. keys_are kind w i ++ touched w i
  where
    touched : (w : Write) → touched_keys (rows_of kind w) ≡ ends_of w
    touched (AddVertex v) = refl
    touched (DropVertex v) = refl
    touched (AddEdge u v weight) = refl
    touched (SetEdge u v weight) = refl
    touched (DropEdge u v) = refl

-- keys beside others are none of those, and were among all
beside : (others keys : List Key) (q : Key) → has_key (keys_beside others keys) q ≡ true
    → (has_key keys q ≡ true) × (has_key others q ≡ false)
beside others [] q h = cc
beside others (k ∷ keys) q h = by_other (has_key others k) refl h (beside others keys q)
  where
    by_other : (t : Bool) → has_key others k ≡ t
        → has_key (cond (not t) (k ∷ keys_beside others keys) (keys_beside others keys)) q ≡ true
        → (has_key (keys_beside others keys) q ≡ true → (has_key keys q ≡ true) × (has_key others q ≡ false))
        → (has_key (k ∷ keys) q ≡ true) × (has_key others q ≡ false)
    by_other true e g rest = let r = rest g in (or_right (same_key q k) _ r.0, r.1)
    by_other false e g rest =
        elim (either_of (same_key q k) _ g)
        as (λ _. (has_key (k ∷ keys) q ≡ true) × (has_key others q ≡ false)) [
          | inl f ↦ (or_left _ _ f, ap (has_key others) (same_key_eq q k f) ∙ e)
          | inr f ↦ let r = rest f in (or_right (same_key q k) _ r.0, r.1)
        ]

-- one that is none of these stays
pub stays_beside : (ks us : List Key) (q : Key) → has_key ks q ≡ false → has_key us q ≡ true → has_key (keys_beside ks us) q ≡ true
stays_beside ks [] q off has = has
stays_beside ks (u ∷ us) q off has = go (same_key q u) (has_key ks u) refl refl has (stays_beside ks us q off)
  where
    go : (t b : Bool) → same_key q u ≡ t → has_key ks u ≡ b → (t || has_key us q) ≡ true
        → (has_key us q ≡ true → has_key (keys_beside ks us) q ≡ true)
        → has_key (cond (not b) (u ∷ keys_beside ks us) (keys_beside ks us)) q ≡ true
    go true true e f h rest = let clash : true ≡ false = sym f ∙ ap (has_key ks) (sym (same_key_eq q u e)) ∙ off in cc
    go true false e f h rest = ap (λ t. t || has_key (keys_beside ks us) q) e
    go false true e f h rest = rest h
    go false false e f h rest = ap (λ t. t || has_key (keys_beside ks us) q) e ∙ rest h

-- LEFT: once those of one write are stamped the others are left
pub fewer_left : (kind : Kind) (w : Write) (ws : List Write) (keys : List Key) → AreLeft kind (w ∷ ws) keys
    → AreLeft kind ws (keys_beside (keys_changed kind w) keys)
fewer_left kind w ws keys left q h =
    let r = beside (keys_changed kind w) keys q h in
    let all = sym (has_append (keys_of kind w ++ ends_of w) (changed_keys kind ws) q) ∙ left q r.0 in
    let off : has_key (keys_of kind w ++ ends_of w) q ≡ false =
    ap (λ l. has_key l q) (sym (changes_are kind w)) ∙ r.1 in
    (λ i. sym off i || has_key (changed_keys kind ws) q) ∙ all

-- behind the end nothing is left of a list
pub drop_end : {X : Type 0} (xs : List X) (n : ℕ) → length xs ≤ n → drop n xs ≡ []
drop_end [] zero h = refl
drop_end [] (suc n) h = refl
drop_end (x ∷ xs) zero h = absurd (omega (arith, h))
drop_end (x ∷ xs) (suc n) h = drop_end xs n (omega (arith, h))

pub drop_at : {X : Type 0} (xs : List X) (n : ℕ) (x : X) → slice_get xs n ≡ Some x → drop n xs ≡ x ∷ drop (suc n) xs
drop_at [] n x at = cc
drop_at (y ∷ xs) zero x at = ap (λ b. b ∷ xs) (sym (some_same y x at))
drop_at (y ∷ xs) (suc n) x at = drop_at xs n x at

-- a slice to the end is what the front leaves
drop_short : {X : Type 0} (xs : List X) (n : ℕ) → length (drop n xs) ≤ length xs - n
drop_short xs zero = omega arith
drop_short [] (suc n) = omega arith
drop_short (x ∷ xs) (suc n) = let rest = drop_short xs n in omega (arith, rest)

pub slice_end : {X : Type 0} (xs : List X) (n : ℕ) → take (length xs - n) (drop n xs) ≡ drop n xs
slice_end xs n = take_all (length xs - n) (drop n xs) (drop_short xs n)

-- STAMPED: the rows of one write more
pub stamps_on : (kind : Kind) (first old new : PassState) (w : Write) (ws : List Write)
    → LeavesRows old.unstamped first old → AreLeft kind (w ∷ ws) old.unstamped
    → AreStampedTo kind w old new → LeavesRows new.unstamped first new × AreLeft kind ws new.unstamped
stamps_on kind first old new w ws was left is = (
  is.is ∙ (λ i. record (was i) { unstamped = new.unstamped; looks = new.looks }),
  λ q h. fewer_left kind w ws old.unstamped left q
      (stays_beside (keys_changed kind w) old.unstamped q (not_gone q (has_key (keys_changed kind w) q) refl h) (is.left q h)),
)
  where
    not_gone : (q : Key) (b : Bool) → has_key (keys_changed kind w) q ≡ b → has_key new.unstamped q ≡ true → has_key (keys_changed kind w) q ≡ false
    not_gone q true e h = let clash : true ≡ false = sym h ∙ is.gone q e in cc
    not_gone q false e h = e

-- the pass may settle cells of its last commit still
pub settling_on : (store : Store) (old new : Pass) (sweep : Sweep) (by : TxnName) (stamp : ℕ) (keys : List Key)
    → IsSettling store old sweep by stamp → LeavesRows keys (state_of old) (state_of new) → pin_of new ≡ pin_of old
    → IsSamePass old new → IsSettling store new sweep by stamp
settling_on store old new sweep by stamp keys is state pin same = record {
  stamping = record {
    stage = ap (λ (u : PassState). u.stage) state ∙ is.stamping.stage;
    committed = subst (λ (u : ℕ × PassState). HasCommitted u.0 u.1 stamp) (λ i. (sym same.number i, sym state i)) (record {
      place = is.stamping.committed.place;
      commit = is.stamping.committed.commit;
      at = is.stamping.committed.at;
      by = is.stamping.committed.by;
      stamped = is.stamping.committed.stamped;
    });
    name = is.stamping.name ∙ (λ i. name_at (sym same.number i) (sym state i));
  };
  swept = record {
    is = ap (λ (x : PinState). x.sweep) pin ∙ is.swept.is;
    whole = is.swept.whole;
    seen =
        let as_far = ap (λ (u : PassState). length u.seen) state in
        let had = is.swept.seen in omega (arith, as_far, had);
  };
}

-- ---- keys whose rows are stamped in part by settling their cells

-- those of the first keys are stamped, and then those of the others
pub stamps_both : (kind : Kind) (w : Write) (keys : List Key) (n : ℕ) (old mid new : PassState) → keys ≡ keys_changed kind w
    → StampsKeys (take n keys) old mid → LeavesRows (keys_beside (drop n keys) mid.unstamped) mid new
    → AreStampedTo kind w old new
stamps_both kind w keys n old mid new are first then =
    let same : new.unstamped ≡ keys_beside (drop n keys) mid.unstamped = ap (λ (u : PassState). u.unstamped) then in
    record {
      is = then ∙ (λ i. record (first.is i) { unstamped = (sym same) i; looks = new.looks });
      left = λ q h. first.left q (beside (drop n keys) mid.unstamped q (ap (λ l. has_key l q) (sym same) ∙ h)).0;
      gone = λ q h. go q (has_key new.unstamped q) refl (has_key (take n keys) q) refl (ap (λ l. has_key l q) are ∙ h);
    }
  where
    in_front : (ks : List Key) (m : ℕ) (q : Key) → has_key ks q ≡ true → has_key (drop m ks) q ≡ false → has_key (take m ks) q ≡ true
    in_front ks zero q h none = let clash : true ≡ false = sym h ∙ none in cc
    in_front [] (suc m) q h none = h
    in_front (k ∷ ks) (suc m) q h none = by_first (same_key q k) (λ rest. in_front ks m q rest none) h
      where
        by_first : (b : Bool) → (has_key ks q ≡ true → has_key (take m ks) q ≡ true) → (b || has_key ks q) ≡ true
            → (b || has_key (take m ks) q) ≡ true
        by_first true go e = refl
        by_first false go e = go e

    go : (q : Key) (b : Bool) → has_key new.unstamped q ≡ b → (s : Bool) → has_key (take n keys) q ≡ s → has_key keys q ≡ true
        → has_key new.unstamped q ≡ false
    go q false e s f h = e
    go q true e s f h =
        let still = beside (drop n keys) mid.unstamped q (sym (ap (λ (u : PassState). has_key u.unstamped q) then) ∙ e) in
        let front : has_key (take n keys) q ≡ true = in_front keys n q h still.1 in
        let clash : true ≡ false = sym still.0 ∙ first.gone q front in cc

-- those of all keys are
pub stamps_all : (kind : Kind) (w : Write) (keys : List Key) (n : ℕ) (old mid : PassState) → keys ≡ keys_changed kind w
    → length keys ≤ n → StampsKeys (take n keys) old mid → AreStampedTo kind w old mid
stamps_all kind w keys n old mid are all is = record {
  is = is.is ∙ (λ i. record old { unstamped = mid.unstamped; looks = (sym is.is i).looks });
  left = is.left;
  gone = λ q h. is.gone q (ap (λ l. has_key l q) (take_all n keys all) ∙ ap (λ l. has_key l q) are ∙ h);
}

-- ---- what is lent and given back

-- who lends and gets back has looked
pub looked_through : (old mid new : Pass) (sight u : Sight) → OnlyAccount old mid u → KnowsLooks sight mid new
    → sight ≡ old.account.me.0 → KnowsLooks old.account.me.0 old new
looked_through old mid new sight u step looks is = record {
  number = looks.number ∙ step.number;
  latch = looks.latch ∙ step.latch;
  buffers = looks.buffers ∙ step.buffers;
  table = looks.table ∙ step.account.table;
  slots = looks.slots ∙ (λ i. (step.account.me i).1);
  looked = subst (λ (x : ℕ × Sight). HasLooked x.0 x.1 new.account.me.0) (λ i. (step.number i, is i)) looks.looked;
}
