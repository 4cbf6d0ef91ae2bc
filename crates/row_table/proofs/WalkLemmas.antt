-- Steps of the walks along a list that ask for its writers.
use Rattle.std.proofs.Common.{◌≡◌, inl, inr, ℕ, ◌≤◌, ◌<◌, List, [], ◌∷◌, ◌++◌, refl, sym, ◌∙◌, ap, subst, Some, None}
use Rattle.std.specs.Prelude.{Bool, true, false, not, is_some, Option}
use Rattle.graph_model.specs.declared.journal.TxnName.{TxnName}
use Rattle.graph_model.specs.declared.state.State.{State}
use Rattle.graph_model.specs.declared.state.State.TheVariants.{Live, Committed, Aborted}
use Rattle.graph_model.specs.declared.refusal.Cause.{Cause}
use Rattle.graph_model.specs.declared.refusal.Cause.TheVariants.{Later, Holder}
use Rattle.store_model.specs.Check.{combine}
use Rattle.store_model.specs.Stamped.{Stamped}
use Rattle.store_model.proofs.CombineLemmas.{combine-assoc}
use Rattle.head_map.specs.UndoChainDeclared.undo.Undo.{Undo}
use Rattle.head_map.specs.UndoChainDeclared.states.Snapshot.{Snapshot}
use Rattle.head_map.specs.UndoChain.Records.{UndoRecord, pairs_of}
use Rattle.head_map.specs.UndoChain.Chains.{ChainMap, unlinked, list_at, IsLinkOf}
use Rattle.head_map.specs.UndoChain.States.{Knowledge, Grows, IsAnswer, AreNamed}
use Rattle.head_map.proofs.UndoChain.ListLemmas.{at_link, asked_on, grows_start, grows_chain, none_left}
use Rattle.row_table.specs.Checks.{AreNamedIn, blocked, IsStateBy, AreStatesOf, blocked_by, IsChecked, drops_in}
use Rattle.row_table.specs.Parts.{touches_of}
use Rattle.row_table.specs.Walks.{IsOneChecked, IsTouchWalk, IsDropWalk}

-- ---- answers stay answers

state_grows : (old now new : Knowledge) (own : Bool) (stamp : Option ℕ) (by : TxnName) (state : State) → Grows now new → IsStateBy old now own stamp by state → IsStateBy old new own stamp by state
state_grows old now new true stamp by state g h = h
state_grows old now new false (Some c) by state g h = h
state_grows old now new false None by state g h = (h.0, g.vouched by state h.1)

answer_before : (old now : Knowledge) (by : TxnName) (state : State) → Grows old now → IsAnswer now by state → IsAnswer old by state
answer_before old now by Live g h = ap (λ (f : TxnName → Option ℕ). f by) (sym g.stamps) ∙ h
answer_before old now by Aborted g h = ap (λ (f : TxnName → Option ℕ). f by) (sym g.stamps) ∙ h
answer_before old now by (Committed stamp) g h =
    let same = ap (λ (f : TxnName → Option ℕ). f by) (sym g.stamps) in
    elim h [
      | inl h ↦ inl (same ∙ h.0, subst (λ (n : ℕ). stamp ≤ n) g.known h.1)
      | inr h ↦ inr (same ∙ h.0, subst (λ (n : ℕ). n < stamp) g.known h.1)
    ]

-- an answer that was got later is one to what was known first
state_before : (old now new : Knowledge) (own : Bool) (stamp : Option ℕ) (by : TxnName) (state : State) → Grows old now → IsStateBy now new own stamp by state → IsStateBy old new own stamp by state
state_before old now new true stamp by state g h = h
state_before old now new false (Some c) by state g h = h
state_before old now new false None by state g h = (answer_before old now by state g h.0, h.1)

states_grow : (old now new : Knowledge) (own : TxnName) (ps : List Stamped) (states : List State) → Grows now new → AreStatesOf old now own ps states → AreStatesOf old new own ps states
states_grow old now new own [] [] g h = tt
states_grow old now new own [] (a ∷ states) g h = absurd h
states_grow old now new own (p ∷ ps) [] g h = absurd h
states_grow old now new own (p ∷ ps) (a ∷ states) g h = (state_grows old now new _ p.stamp p.by a g h.0, states_grow old now new own ps states g h.1)

states_before : (old now new : Knowledge) (own : TxnName) (ps : List Stamped) (states : List State) → Grows old now → AreStatesOf now new own ps states → AreStatesOf old new own ps states
states_before old now new own [] [] g h = tt
states_before old now new own [] (a ∷ states) g h = absurd h
states_before old now new own (p ∷ ps) [] g h = absurd h
states_before old now new own (p ∷ ps) (a ∷ states) g h = (state_before old now new _ p.stamp p.by a g h.0, states_before old now new own ps states g h.1)

-- ---- several writers

combine_none : (b : Option Cause) → combine b None ≡ b
combine_none None = refl
combine_none (Some (Holder x)) = refl
combine_none (Some (Later c)) = refl

pub checked_none : (old new : Knowledge) (snapshot : Snapshot) → IsChecked old new snapshot [] None
checked_none old new snapshot = record { states = []; each = tt; is = refl }

-- one more record, before the others
pub checked_cons : (old now new : Knowledge) (snapshot : Snapshot) (undo : Undo) (value : Option ℕ) (ps : List Stamped) (first rest : Option Cause) → Grows old now
    → IsOneChecked now new snapshot undo first → IsChecked old new snapshot ps rest
    → IsChecked old new snapshot (record { by = undo.by; stamp = undo.stamp; value = value } ∷ ps) (combine first rest)
checked_cons old now new snapshot undo value ps first rest g one more = record {
  states = one.state ∷ more.states;
  each = (state_before old now new _ undo.stamp undo.by one.state g one.stands, more.each);
  is = λ i. combine (one.is i) (more.is i);
}

pub checked_one : (old new : Knowledge) (snapshot : Snapshot) (undo : Undo) (value : Option ℕ) (cause : Option Cause)
    → IsOneChecked old new snapshot undo cause → IsChecked old new snapshot (record { by = undo.by; stamp = undo.stamp; value = value } ∷ []) cause
checked_one old new snapshot undo value cause one =
    subst (IsChecked old new snapshot (record { by = undo.by; stamp = undo.stamp; value = value } ∷ [])) (combine_none cause)
    (checked_cons old old new snapshot undo value [] cause None (grows_start old) one (checked_none old new snapshot))

-- those before and those behind
pub checked_both : (old now new : Knowledge) (snapshot : Snapshot) (ps qs : List Stamped) (a b : Option Cause) → Grows old now → Grows now new
    → IsChecked old now snapshot ps a → IsChecked now new snapshot qs b → IsChecked old new snapshot (ps ++ qs) (combine a b)
checked_both old now new snapshot ps qs a b f g first second =
    let each = go ps first.states qs second.states (states_grow old now new snapshot.own ps first.states g first.each) (states_before old now new snapshot.own qs second.states f second.each) in
    record { states = first.states ++ second.states; each = each.0; is = (λ i. combine (first.is i) (second.is i)) ∙ sym each.1 }
  where
    go : (xs : List Stamped) (ss : List State) (ys : List Stamped) (ts : List State) → AreStatesOf old new snapshot.own xs ss → AreStatesOf old new snapshot.own ys ts
        → AreStatesOf old new snapshot.own (xs ++ ys) (ss ++ ts) × (blocked_by snapshot (xs ++ ys) (ss ++ ts) ≡ combine (blocked_by snapshot xs ss) (blocked_by snapshot ys ts))
    go [] [] ys ts h k = (k, refl)
    go [] (x ∷ ss) ys ts h k = absurd h
    go (x ∷ xs) [] ys ts h k = absurd h
    go (x ∷ xs) (s ∷ ss) ys ts h k =
        let rest = go xs ss ys ts h.1 k in
        ((h.0, rest.0), ap (combine (blocked snapshot x.by s)) rest.1 ∙ combine-assoc (blocked snapshot x.by s) (blocked_by snapshot xs ss) (blocked_by snapshot ys ts))

-- ---- the touches

module _ (c : ChainMap) (old : Knowledge) (snapshot : Snapshot) (head : Option ℕ) where
  module _ (now new : Knowledge) (link : Option ℕ) (cause : Option Cause) (is : IsTouchWalk c old now snapshot head link cause) where
    pub touch_on : (key : ℕ) (undo : Undo) (first : Option Cause) → link ≡ Some key → list_at c (Some key) ≡ unlinked undo ∷ list_at c undo.next → IsLinkOf c undo.next
        → Grows now new → IsOneChecked now new snapshot undo first → IsTouchWalk c old new snapshot head undo.next (combine first cause)
    touch_on key undo first at taken leads g one =
        let was = at_link c link key _ at taken in
        let touch : Stamped = record { by = undo.by; stamp = undo.stamp; value = None } in
        record {
          is_link = leads;
          asked = asked_on c c old now link undo.next (unlinked undo) is.asked was new g;
          done = touch ∷ is.done;
          split = append_assoc (touches_of (list_at c undo.next)) touch is.done ∙ ap (λ us. touches_of us ++ is.done) (sym was) ∙ is.split;
          checked = checked_cons old now new snapshot undo None is.done first cause is.asked.grows one
              (record { states = is.checked.states; each = states_grow old now new snapshot.own is.done is.checked.states g is.checked.each; is = is.checked.is });
        }
      where
        append_assoc : (xs : List Stamped) (y : Stamped) (zs : List Stamped) → xs ++ y ∷ zs ≡ (xs ++ y ∷ []) ++ zs
        append_assoc [] y zs = refl
        append_assoc (x ∷ xs) y zs = ap (λ ws. x ∷ ws) (append_assoc xs y zs)

    pub touch_end : link ≡ None → IsChecked old now snapshot (touches_of (list_at c head)) cause
    touch_end e =
        let none = none_left c link e in
        subst (λ ps. IsChecked old now snapshot ps cause) (sym (ap (λ us. touches_of us ++ is.done) none) ∙ is.split) is.checked

-- ---- the removals

module _ (c : ChainMap) (old : Knowledge) (snapshot : Snapshot) (base : Option ℕ) (head : Option ℕ) where
  module _ (now : Knowledge) (value link : Option ℕ) (cause : Option Cause) (is : IsDropWalk c old now snapshot base head value link cause) where
    -- a removal
    pub drop_on : (new : Knowledge) (key : ℕ) (undo : Undo) (first : Option Cause) → link ≡ Some key → list_at c (Some key) ≡ unlinked undo ∷ list_at c undo.next → IsLinkOf c undo.next → value ≡ None
        → Grows now new → IsOneChecked now new snapshot undo first → IsDropWalk c old new snapshot base head undo.older undo.next (combine cause first)
    drop_on new key undo first at taken leads none g one =
        let was = at_link c link key _ at taken in
        record {
          is_link = leads;
          asked = asked_on c c old now link undo.next (unlinked undo) is.asked was new g;
          rest = λ later final h more.
              let grown = grows_chain now new later g h in
              let here = checked_cons old now later snapshot undo None (drops_in (pairs_of undo.older (list_at c undo.next))) first final is.asked.grows
              (record { state = one.state; stands = state_grows now new later _ undo.stamp undo.by one.state h one.stands; is = one.is }) more in
              subst (IsChecked old later snapshot (drops_in (pairs_of base (list_at c head)))) (combine-assoc cause first final)
              (is.rest later (combine first final) grown (subst (λ ps. IsChecked old later snapshot ps (combine first final)) (λ i. drops_in (pairs_of (sym none i) (sym was i))) here));
        }

    -- a write of a value
    pub drop_skip : (key w : ℕ) (undo : Undo) → link ≡ Some key → list_at c (Some key) ≡ unlinked undo ∷ list_at c undo.next → IsLinkOf c undo.next → value ≡ Some w
        → IsDropWalk c old now snapshot base head undo.older undo.next cause
    drop_skip key w undo at taken leads some =
        let was = at_link c link key _ at taken in
        record {
          is_link = leads;
          asked = asked_on c c old now link undo.next (unlinked undo) is.asked was now (grows_start now);
          rest = λ later final h more. is.rest later final h (subst (λ ps. IsChecked old later snapshot ps final) (λ i. drops_in (pairs_of (sym some i) (sym was i))) more);
        }

    pub drop_end : link ≡ None → IsChecked old now snapshot (drops_in (pairs_of base (list_at c head))) cause
    drop_end e =
        let none = none_left c link e in
        subst (IsChecked old now snapshot (drops_in (pairs_of base (list_at c head)))) (combine_none cause)
        (is.rest now None (grows_start now) (subst (λ us. IsChecked old now snapshot (drops_in (pairs_of value us)) None) (sym none) (checked_none old now snapshot)))

-- ---- whom one may ask for

pub named_pairs : (names : TxnName → Bool) (value : Option ℕ) (us : List UndoRecord) → AreNamedIn names (pairs_of value us) → AreNamed names us
named_pairs names value [] h = tt
named_pairs names value (u ∷ us) h = (h.0, named_pairs names u.older us h.1)

pub named_touches : (names : TxnName → Bool) (us : List UndoRecord) → AreNamedIn names (touches_of us) → AreNamed names us
named_touches names [] h = tt
named_touches names (u ∷ us) h = let p = split (touches_of us) _ h in (p.1, named_touches names us p.0)
  where
    split : (ps : List Stamped) (p : Stamped) → AreNamedIn names (ps ++ p ∷ []) → AreNamedIn names ps × (p.stamp ≡ None → names p.by ≡ true)
    split [] p k = (tt, k.0)
    split (q ∷ qs) p k = let r = split qs p k.1 in ((k.0, r.0), r.1)

-- an option that isn't there
pub none_is : (o : Option ℕ) (none : Bool) → is_some o ≡ not none → none ≡ true → o ≡ None
none_is None none e f = refl
none_is (Some x) none e f = clash (e ∙ ap not f)
  where
    clash : true ≡ false → Some x ≡ None
    clash g = cc
