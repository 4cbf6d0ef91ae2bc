-- Records in rows, through steps of passes and changes of rows.
use Rattle.std.proofs.Common.{◌≡◌, ℕ, List, [], ◌∷◌, ◌++◌, drop, refl, sym, ◌∙◌, ap, cond, inl, inr}
use Rattle.std.specs.Prelude.{◌⊎◌, Bool, true, false, Option, None}
use Rattle.std.specs.List.{AllByRecursion}
use mathlib.Core.Logic.{dite}
use native.Mathlib.Decide.{ℕ_discrete}
use Rattle.graph_model.specs.declared.write.Kind.{Kind}
use Rattle.graph_model.specs.declared.write.Write.{Write}
use Rattle.graph_model.specs.declared.row.Key.{Key}
use Rattle.graph_model.specs.declared.journal.TxnName.{TxnName}
use Rattle.graph_model.specs.Effects.{value_left, writes_at, touches_at}
use Rattle.graph_model.specs.Passes.{revised}
use Rattle.graph_model.specs.Transactions.{has_name}
use Rattle.store_model.specs.Check.{writers}
use Rattle.store_model.specs.Layers.{after_write, before_write}
use Rattle.store_model.specs.Versions.{write, undo, touch, untouch}
use Rattle.store_model.specs.Stamped.{Stamped, StampedVersions, IsStamped, forget_row, stamped_front}
use Rattle.version_segment.specs.Rows.{new_record, has_record, written, undone, touched, untouched}
use Rattle.version_segment.proofs.LawLemmas.{undone_is_undo, touched_is_touch, untouched_is_untouch}
use Rattle.store_relation.specs.Passes.{PassState, may_stand, name_of, number_of}
use Rattle.store_relation.specs.Rows.{row_after, row_before}
use Rattle.store_relation.specs.Shared.{AreSpokenFor, IsSpokenFor}
use Rattle.store_relation.proofs.ListLemmas.{all_by, all_by_touch, all_end, all_filter, revised_here, revised_else}

-- the writer has a record in the row
abbrev pub StandsIn : StampedVersions → TxnName → Type 0
StandsIn r n = (has_name (writers (forget_row r)) n ≡ true) ⊎ (has_name (forget_row r).touches n ≡ true)

-- ---- another state of one pass

module _ (pass : ℕ → PassState) (p : ℕ) (st' : PassState) (k : Key) where
  abbrev pub KeepsSpeaking : TxnName → Type 0
  KeepsSpeaking n = n ≡ name_of pass p → may_stand (pass p) k ≡ true → (number_of st' ≡ number_of (pass p))
      × (may_stand st' k ≡ true)

  spoken_one : (x : Stamped) → KeepsSpeaking x.by → IsSpokenFor pass k x → IsSpokenFor (revised pass p st') k x
  spoken_one x keeps old none =
      let h = old none in
      dite (ℕ_discrete x.by.job p)
      (λ same.
      let me : x.by ≡ name_of pass p = h.0 ∙ ap (name_of pass) same in
      let may : may_stand (pass p) k ≡ true = ap (λ q. may_stand (pass q) k) (sym same) ∙ h.1 in
      let r = keeps me may in
      let number : number_of (pass x.by.job) ≡ number_of (revised pass p st' x.by.job) =
      ap (λ q. number_of (pass q)) same ∙ sym r.0 ∙ ap number_of (sym (revised_here pass p st'))
      ∙ ap (λ q. number_of (revised pass p st' q)) (sym same) in (
        h.0 ∙ ap (λ n. record { job = x.by.job; number = n }) number,
        ap (λ q. may_stand (revised pass p st' q) k) same ∙ ap (λ u. may_stand u k) (revised_here pass p st')
            ∙ r.1,
      ))
      (λ other.
      let st = revised_else pass p st' x.by.job other in (
        h.0 ∙ ap (λ u. record { job = x.by.job; number = number_of u }) (sym st),
        ap (λ u. may_stand u k) st
            ∙ h.1,
      ))

  -- the words of passes still speak for the records, where one of them comes to another state
  pub spoken_put : (r : StampedVersions) → AreSpokenFor pass k r
      → ((n : TxnName) → StandsIn r n → KeepsSpeaking n) → AreSpokenFor (revised pass p st') k r
  spoken_put r is keeps = record {
    pairs = all_by _ _ r.pairs (λ x h. spoken_one x (keeps x.by (inl h))) is.pairs;
    touches = all_by_touch _ _ r.touches (λ x h. spoken_one x (keeps x.by (inr h))) is.touches;
  }

  pub spoken_same : (r : StampedVersions) → AreSpokenFor pass k r → number_of st' ≡ number_of (pass p)
      → (may_stand (pass p) k ≡ true → may_stand st' k ≡ true) → AreSpokenFor (revised pass p st') k r
  spoken_same r is number may = spoken_put r is (λ n h me m. (number, may m))

-- ---- a write, and one that is taken back

-- each record of a row passes a test
abbrev pub EachRecord : (Stamped → Type 0) → StampedVersions → Type 0
EachRecord Q r = AllByRecursion Q r.pairs × AllByRecursion Q r.touches

module _ (Q : Stamped → Type 0) where
  pub after_each : (kind : Kind) (by : TxnName) (w : Write) (k : Key) (r : StampedVersions)
      → ((value : Option ℕ) → Q (new_record by value)) → EachRecord Q r → EachRecord Q (row_after kind by w k r)
  after_each kind by w k r new all =
      touch_one (touches_at w k) (cond (writes_at kind w k) (written by (value_left w) r) r)
      (write_one (writes_at kind w k))
    where
      write_one : (t : Bool) → EachRecord Q (cond t (written by (value_left w) r) r)
      write_one true = ((new (value_left w), all.0), all.1)
      write_one false = all

      touched_one : (t : Bool) (u : StampedVersions) → EachRecord Q u
          → AllByRecursion Q (cond t u.touches (u.touches ++ new_record by None ∷ []))
      touched_one true u h = h.1
      touched_one false u h = all_end Q u.touches (new_record by None) h.1 (new None)

      touch_one : (t : Bool) (u : StampedVersions) → EachRecord Q u → EachRecord Q (cond t (touched by u) u)
      touch_one true u h = (h.0, touched_one (has_record by u.touches) u h)
      touch_one false u h = h

  pub before_each : (kind : Kind) (by : TxnName) (w : Write) (k : Key) (r : StampedVersions) → EachRecord Q r
      → EachRecord Q (row_before kind by w k r)
  before_each kind by w k r all =
      touch_one (touches_at w k) (cond (writes_at kind w k) (undone r) r) (undo_one (writes_at kind w k))
    where
      rest : (ps : List Stamped) → AllByRecursion Q ps → AllByRecursion Q (drop 1 ps)
      rest [] h = tt
      rest (x ∷ ps) h = h.1

      undo_one : (t : Bool) → EachRecord Q (cond t (undone r) r)
      undo_one true = (rest r.pairs all.0, all.1)
      undo_one false = all

      touch_one : (t : Bool) (u : StampedVersions) → EachRecord Q u → EachRecord Q (cond t (untouched by u) u)
      touch_one true u h = (h.0, all_filter Q _ u.touches h.1)
      touch_one false u h = h

  pub front_each : (test : Stamped → Bool) (ps : List Stamped) → AllByRecursion Q ps
      → AllByRecursion Q (stamped_front test ps)
  front_each test [] h = tt
  front_each test (x ∷ ps) h = elim (test x) as (λ t. AllByRecursion Q (cond t [] (x ∷ stamped_front test ps)))
      [ true ↦ tt | false ↦ (h.0, front_each test ps h.1) ]

-- without the stamps they are the plain ones
pub forget_after : (kind : Kind) (by : TxnName) (w : Write) (k : Key) (r : StampedVersions)
    → forget_row (row_after kind by w k r) ≡ after_write kind by w k (forget_row r)
forget_after kind by w k r = touch_one (touches_at w k)
    ∙ ap (λ vs. cond (touches_at w k) (touch by vs) vs) (write_one (writes_at kind w k))
  where
    write_one : (t : Bool) → forget_row (cond t (written by (value_left w) r) r) ≡ cond t
        (write by (value_left w) (forget_row r)) (forget_row r)
    write_one true = refl
    write_one false = refl

    touch_one : (t : Bool) → forget_row
        (cond t (touched by (cond (writes_at kind w k) (written by (value_left w) r) r))
        (cond (writes_at kind w k) (written by (value_left w) r) r)) ≡ cond t
        (touch by (forget_row (cond (writes_at kind w k) (written by (value_left w) r) r)))
        (forget_row (cond (writes_at kind w k) (written by (value_left w) r) r))
    touch_one true = touched_is_touch by (cond (writes_at kind w k) (written by (value_left w) r) r)
    touch_one false = refl

pub forget_before : (kind : Kind) (by : TxnName) (w : Write) (k : Key) (r : StampedVersions)
    → forget_row (row_before kind by w k r) ≡ before_write kind by w k (forget_row r)
forget_before kind by w k r = touch_one (touches_at w k)
    ∙ ap (λ vs. cond (touches_at w k) (untouch by vs) vs) (undo_one (writes_at kind w k))
  where
    undo_one : (t : Bool) → forget_row (cond t (undone r) r) ≡ cond t (undo (forget_row r)) (forget_row r)
    undo_one true = undone_is_undo r
    undo_one false = refl

    touch_one : (t : Bool) → forget_row
        (cond t (untouched by (cond (writes_at kind w k) (undone r) r))
        (cond (writes_at kind w k) (undone r) r)) ≡ cond t
        (untouch by (forget_row (cond (writes_at kind w k) (undone r) r)))
        (forget_row (cond (writes_at kind w k) (undone r) r))
    touch_one true = untouched_is_untouch by (cond (writes_at kind w k) (undone r) r)
    touch_one false = refl

pub stamped_after : (stamps : TxnName → Option ℕ) (kind : Kind) (by : TxnName) (w : Write) (k : Key)
    (r : StampedVersions) → IsStamped stamps r → IsStamped stamps (row_after kind by w k r)
stamped_after stamps kind by w k r is =
    let h = after_each _ kind by w k r (λ value. tt) (is.pairs, is.touches) in
    record { pairs = h.0; touches = h.1 }

pub stamped_before : (stamps : TxnName → Option ℕ) (kind : Kind) (by : TxnName) (w : Write) (k : Key)
    (r : StampedVersions) → IsStamped stamps r → IsStamped stamps (row_before kind by w k r)
stamped_before stamps kind by w k r is =
    let h = before_each _ kind by w k r (is.pairs, is.touches) in record { pairs = h.0; touches = h.1 }

pub spoken_after : (pass : ℕ → PassState) (kind : Kind) (by : TxnName) (w : Write) (k : Key)
    (r : StampedVersions) → by ≡ name_of pass by.job → may_stand (pass by.job) k ≡ true → AreSpokenFor pass k r
    → AreSpokenFor pass k (row_after kind by w k r)
spoken_after pass kind by w k r named may is =
    let h = after_each (IsSpokenFor pass k) kind by w k r (λ value none. (named, may)) (is.pairs, is.touches) in
    record { pairs = h.0; touches = h.1 }

pub spoken_before : (pass : ℕ → PassState) (kind : Kind) (by : TxnName) (w : Write) (k : Key)
    (r : StampedVersions) → AreSpokenFor pass k r → AreSpokenFor pass k (row_before kind by w k r)
spoken_before pass kind by w k r is =
    let h = before_each (IsSpokenFor pass k) kind by w k r (is.pairs, is.touches) in
    record { pairs = h.0; touches = h.1 }
