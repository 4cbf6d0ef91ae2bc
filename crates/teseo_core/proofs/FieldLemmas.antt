-- The core of an engine by its fields, while one of its passes is changed in place.
use Rattle.std.proofs.Common.{◌≡◌, ℕ, zero, suc, ◌+◌, ◌<◌, ◌≤◌, subst, ◌↔◌, List, [], ◌∷◌, ◌++◌, length, get_or, cond, refl, sym, ◌∙◌, ap, arith}
use Rattle.std.specs.Prelude.{Bool, true, false, ◌==◌, Option, Some, None, IsSome, unwrap_or, slice_get, slice_set, Result, Ok, Err, IsErrAnd}
use Rattle.std.proofs.lemmas.Bool.Decides.{nat_tests}
use Rattle.graph_model.specs.declared.write.Kind.{Kind}
use Rattle.graph_model.specs.declared.write.Write.{Write}
use Rattle.graph_model.specs.declared.journal.Begun.{Begun}
use Rattle.graph_model.specs.declared.refusal.BeginRefusal.{BeginRefusal}
use Rattle.graph_model.specs.declared.refusal.BeginRefusal.TheVariants.{TxnsUsed, NoMemory}
use Rattle.graph_model.specs.OwnerCalls.{PassState, Core, no_pass, current, with_current, name_here, ended_pass, BeginsHere, CommitsHereFrom}
use Rattle.graph_model.specs.Transactions.{commit_of}
use Rattle.graph_model.proofs.TestLemmas.{eq_of, self_eq}
use Rattle.txn_manager.specs.Manager.{Manager, PassTxns, txns_of, open_start, committed}
use Rattle.leaf_rows.specs.LeafStore.Leaves.{Leaves}
use Rattle.teseo_core.specs.Passes.{RoomyPass}
use Rattle.teseo_core.specs.Keeping.{states_of, core_of, IsKept}

-- the state of a pass that is lent
pub lent_state : (passes : List RoomyPass) (i : ℕ) (p : RoomyPass) → i < length (states_of passes) → p ≡ get_or passes i p → unwrap_or (slice_get (states_of passes) i) no_pass ≡ p.state
lent_state [] i p lt is = absurd (omega (arith, lt))
lent_state (x ∷ passes) zero p lt is = ap (λ (q : RoomyPass). q.state) (sym is)
lent_state (x ∷ passes) (suc i) p lt is = lent_state passes i p (omega (arith, lt)) is

-- the states where a pass is put in place
pub states_set : (passes : List RoomyPass) (i : ℕ) (p : RoomyPass) → states_of (slice_set passes i p) ≡ slice_set (states_of passes) i p.state
states_set [] i p = refl
states_set (x ∷ passes) zero p = refl
states_set (x ∷ passes) (suc i) p = ap (λ ps. x.state ∷ ps) (states_set passes i p)

pub set_same : (states : List PassState) (i : ℕ) (s : PassState) → i < length states → unwrap_or (slice_get states i) no_pass ≡ s → slice_set states i s ≡ states
set_same [] i s lt is = refl
set_same (x ∷ states) zero s lt is = ap (λ y. y ∷ states) (sym is)
set_same (x ∷ states) (suc i) s lt is = ap (λ ys. x ∷ ys) (set_same states i s (omega (arith, lt)) is)

-- a pass in the same state changes no state
pub states_kept : (passes : List RoomyPass) (i : ℕ) (p : RoomyPass) → i < length (states_of passes) → unwrap_or (slice_get (states_of passes) i) no_pass ≡ p.state → states_of (slice_set passes i p) ≡ states_of passes
states_kept passes i p lt is = states_set passes i p ∙ set_same (states_of passes) i p.state lt is

-- a start that is there
pub start_of : (x : Option ℕ) → IsSome x → (n : ℕ) × (x ≡ Some n)
start_of None is = cc
start_of (Some n) is = (n, refl)

pub some_nat : (x y : ℕ) → ◌≡◌ {A = Option ℕ} (Some x) (Some y) → x ≡ y
some_nat x y e = cc

-- a result that is a refusal
pub result_err : {T E : Type 0} (r : Result T E) (P : E → Type 0) (Q : Result T E → Type 0) → IsErrAnd r P → ((e : E) → P e → Q (Err e)) → Q r
result_err (Ok x) P Q is each = absurd is
result_err (Err e) P Q is each = each e is

-- ---- an engine by its fields

module _ (kind : Kind) (leaves : ℕ) (m : Manager) (passes : List RoomyPass) (selected served : ℕ) (rows : Leaves) (is : IsKept (core_of kind leaves m passes selected served) m rows) where
  abbrev core : Core
  core = core_of kind leaves m passes selected served

  -- one pass is put in place
  pub put_core : (p : RoomyPass) (m' : Manager) → m'.journal ≡ m.journal → core_of kind leaves m' (slice_set passes selected p) selected served ≡ with_current core p.state
  put_core p m' same = λ i. record { kind = kind; leaves = leaves; journal = same i; passes = states_set passes selected p i; selected = selected; served = served }

  -- with another journal
  pub journal_core : (p : RoomyPass) (m' : Manager) → core_of kind leaves m' (slice_set passes selected p) selected served ≡ record (with_current core p.state) { journal = m'.journal }
  journal_core p m' = λ i. record { kind = kind; leaves = leaves; journal = m'.journal; passes = states_set passes selected p i; selected = selected; served = served }

  -- in the same state
  pub kept_core : (p : RoomyPass) (m' : Manager) → m'.journal ≡ m.journal → p.state ≡ current core → core_of kind leaves m' (slice_set passes selected p) selected served ≡ core
  kept_core p m' same state = λ i. record { kind = kind; leaves = leaves; journal = same i; passes = states_kept passes selected p is.chosen (sym state) i; selected = selected; served = served }

  kept_spare : (m' : Manager) → m' ≡ record m { spare = m'.spare } → IsKept core m' rows
  kept_spare m' same = subst (λ (n : Manager). IsKept core n rows) (sym same) (record {
    horizon = is.horizon;
    store = is.store;
    chosen = is.chosen;
    tied = record { journal = is.tied.journal; count = is.tied.count; each = is.tied.each; allowed = is.tied.allowed };
    used = is.used;
    made = is.made;
    weight_is = is.weight_is;
    limit = is.limit;
    some = is.some;
    few = is.few;
  })

  -- no pass is put in place
  pub roomy_core : (m' : Manager) → m'.journal ≡ m.journal → core_of kind leaves m' passes selected served ≡ core
  roomy_core m' same = λ i. record { kind = kind; leaves = leaves; journal = same i; passes = states_of passes; selected = selected; served = served }

  -- nothing has changed but the manager's room
  pub kept_roomy : (m' : Manager) → m' ≡ record m { spare = m'.spare } → IsKept (core_of kind leaves m' passes selected served) m' rows
  kept_roomy m' same = subst (λ (c : Core). IsKept c m' rows) (sym (roomy_core m' (ap (λ (n : Manager). n.journal) same))) (kept_spare m' same)

  -- ---- begin

  -- why a begin is refused
  pub begin_refused : (r : Result Begun BeginRefusal) → (r ≡ Err TxnsUsed) ↔ ((txns_of m selected).begun ≡ m.allowed) → (new : Core) → new ≡ core → (e : BeginRefusal) → r ≡ Err e → BeginsHere core (Err e) new
  begin_refused r used new same TxnsUsed is_err =
      let counts : (txns_of m selected).begun ≡ (current core).begun = ap (λ (t : PassTxns). t.begun) (is.tied.each selected) in
      let all : (txns_of m selected).begun ≡ m.allowed = used.0 is_err in
      let may : (current core).allowed ≡ m.allowed = is.tied.allowed selected is.chosen in
      (omega (arith, counts, all, may), same)
  begin_refused r used new same NoMemory is_err = same

  pub begins_refused : (o r : Result Begun BeginRefusal) (refusal : BeginRefusal) → (o ≡ Err TxnsUsed) ↔ ((txns_of m selected).begun ≡ m.allowed) → o ≡ Err refusal → IsErrAnd r (λ e. e ≡ refusal) → (new : Core) → new ≡ core → BeginsHere core r new
  begins_refused o r refusal used is_err is new same = result_err r (λ e. e ≡ refusal) (λ r. BeginsHere core r new) is (λ e at. subst (λ x. BeginsHere core (Err x) new) (sym at) (begin_refused o used new same refusal is_err))

  -- where it isn't
  pub begin_room : (begun : Begun) (r : Result Begun BeginRefusal) → (r ≡ Err TxnsUsed) ↔ ((txns_of m selected).begun ≡ m.allowed) → r ≡ Ok begun → (current core).begun < (current core).allowed
  begin_room begun r used is_ok =
      let counts : (txns_of m selected).begun ≡ (current core).begun = ap (λ (t : PassTxns). t.begun) (is.tied.each selected) in
      let may : (current core).allowed ≡ m.allowed = is.tied.allowed selected is.chosen in
      below (is.used selected) (λ all. let no : ◌≡◌ {A = Result Begun BeginRefusal} (Ok begun) (Err TxnsUsed) = sym is_ok ∙ used.1 (counts ∙ all ∙ may) in cc)
    where
      below : {x y : ℕ} → x ≤ y → (x ≡ y → ⊥) → x < y
      below {x} {y} most other = by_order (x == y) refl
        where
          by_order : (t : Bool) → (x == y) ≡ t → x < y
          by_order true e = absurd (other (eq_of x y e))
          by_order false e = grind (arith, nat_tests)

  -- ---- the end

  -- the manager has the open transaction under its name
  pub open_here : (start : ℕ) → (current core).start ≡ Some start → open_start m (name_here core) ≡ Some start
  open_here start opened =
      let self : ((current core).begun == (current core).begun) ≡ true = self_eq (current core).begun in
      ap (λ (t : PassTxns). cond ((current core).begun == t.begun) t.start None) (is.tied.each selected) ∙ ap (λ t. cond t (current core).start None) self ∙ opened

  pub is_open_here : IsSome (current core).start → IsSome (open_start m (name_here core))
  is_open_here some = let at = start_of (current core).start some in subst IsSome (sym (open_here at.0 at.1)) (some_is at.0)
    where
      some_is : (n : ℕ) → IsSome {T = ℕ} (Some n)
      some_is n = cc

  -- the journal after a commit
  pub commit_core : (p : RoomyPass) (m' : Manager) (spare start : ℕ) → (current core).start ≡ Some start → m' ≡ record (committed m (name_here core) (current core).own) { spare = spare }
      → core_of kind leaves m' (slice_set passes selected p) selected served
      ≡ record (with_current core p.state) { journal = core.journal ++ commit_of core.journal (name_here core) (record { start = start; writes = (current core).own }) ∷ [] }
  commit_core p m' spare start opened commits =
      let started = ap (λ x. unwrap_or x 0) (open_here start opened) in
      let journal = ap (λ (n : Manager). n.journal) commits ∙ (λ i. m.journal ++ commit_of m.journal (name_here core) (record { start = started i; writes = (current core).own }) ∷ []) in
      λ i. record { kind = kind; leaves = leaves; journal = journal i; passes = states_set passes selected p i; selected = selected; served = served }

-- a list without writes, and one with some
pub empty_of : (ws : List Write) → (length ws == 0) ≡ true → ws ≡ []
empty_of [] e = refl
empty_of (w ∷ ws) e = let none : length (w ∷ ws) ≡ 0 = eq_of (length (w ∷ ws)) 0 e in absurd (omega (arith, none))

pub full_of : (ws : List Write) → (length ws == 0) ≡ false → 0 < length ws
full_of [] e = let self : (0 == 0) ≡ true = self_eq 0 in let no : true ≡ false = sym self ∙ e in cc
full_of (w ∷ ws) e = omega arith

-- what a commit did, by the writes
pub commits_none : (old new : Core) (start : ℕ) → (current old).own ≡ [] → new ≡ with_current old (ended_pass old) → CommitsHereFrom old start (current old).own None new
commits_none old new start idle is = subst (λ ws. CommitsHereFrom old start ws None new) (sym idle) (refl, is)

pub commits_some : (old new : Core) (start stamp : ℕ) (ws : List Write) → 0 < length ws → stamp ≡ length old.journal + 1
    → new ≡ record (with_current old (ended_pass old)) { journal = old.journal ++ commit_of old.journal (name_here old) (record { start = start; writes = ws }) ∷ [] } → CommitsHereFrom old start ws (Some stamp) new
commits_some old new start stamp [] wrote is same = absurd (omega (arith, wrote))
commits_some old new start stamp (w ∷ ws) wrote is same = (ap Some is, same)
