-- What a check of a row's records answers, where the manager is asked for their writers.
use Rattle.std.proofs.Common.{◌≡◌, ℕ, List, [], ◌∷◌, ◌++◌, take, map, refl, sym, ◌∙◌, ap, cond}
use Rattle.std.specs.Prelude.{Bool, true, false, Option, Some, None, is_some, IsSome}
use Rattle.std.specs.List.{filter}
use Rattle.graph_model.specs.declared.journal.TxnName.{TxnName}
use Rattle.graph_model.specs.declared.state.State.{State}
use Rattle.graph_model.specs.declared.state.State.TheVariants.{Live}
use Rattle.graph_model.specs.declared.refusal.Cause.{Cause}
use Rattle.graph_model.specs.Conflict.{same_name}
use Rattle.graph_model.specs.Transactions.{stamp_in}
use Rattle.graph_model.proofs.StampLemmas.{stamp_none}
use Rattle.graph_model.proofs.TestLemmas.{name_eq}
use Rattle.store_model.specs.Stamped.{Stamped, StampedVersions, forget, forget_row}
use Rattle.store_model.specs.Check.{check, looked, newest, droppers, no_value}
use Rattle.txn_manager.specs.Manager.{Manager, IsManaged, open_start, state_from, state_of}
use Rattle.undo_chain.specs.declared.states.Snapshot.{Snapshot}
use Rattle.undo_chain.specs.States.{Grows}
use Rattle.row_writes.specs.VersionSegment.Checks.{IsChecked, IsStateBy, AreStatesOf, newest_of, newest_and_touches, drops_in, drops_of}
use Rattle.row_writes.specs.VersionSegment.Laws.{IsFit, AreFit}
use Rattle.row_writes.proofs.VersionSegment.LawLemmas.{blocked_is_check}
use Rattle.graph_model.specs.declared.row.Key.{Key}
use Rattle.graph_model.specs.declared.write.Write.{Write}
use Rattle.graph_model.specs.declared.write.Write.TheVariants.{AddVertex, DropVertex, AddEdge, SetEdge, DropEdge}
use Rattle.graph_model.specs.Rows.{vertex_key, arc_key}
use Rattle.leaf_store.specs.Leaves.{Leaves, contents_of, versions_of}
use Rattle.row_writes.specs.Checks.{looked_at}
use Rattle.leaf_rows.specs.Known.{knowledge_of, same_state}
use Rattle.leaf_rows.specs.Readers.{AreUnstamped, HaveNoStamp, IsUnstamped}
use Rattle.leaf_rows.proofs.KnownLemmas.{state_self, state_eq}

-- ---- states

-- where a manager says that a transaction stands, it stands
state_fits : (m : Manager) → IsManaged m → (by : TxnName) → IsFit (λ n. is_some (open_start m n)) (stamp_in m.journal) by (state_of m by)
state_fits m managed by = go (stamp_in m.journal by) (is_some (open_start m by)) refl refl
  where
    go : (stamp : Option ℕ) (live : Bool) → stamp_in m.journal by ≡ stamp → is_some (open_start m by) ≡ live → IsFit (λ n. is_some (open_start m n)) (stamp_in m.journal) by (state_from stamp live)
    go None true e f = (f, e)
    go None false e f = (f, e)
    go (Some stamp) false e f = (f, e)
    go (Some stamp) true e f =
        let none : stamp_in m.journal by ≡ None = stamp_none m.journal by (managed.uncommitted by f) in
        let never : Some stamp ≡ None = sym e ∙ none in
        cc

-- one that is open is live
live_fits : (m : Manager) → IsManaged m → (by : TxnName) → IsSome (open_start m by) → IsFit (λ n. is_some (open_start m n)) (stamp_in m.journal) by Live
live_fits m managed by is_open = (is_open, stamp_none m.journal by (managed.uncommitted by is_open))

-- a state that is vouched for is the manager's
vouched_is : (m now : Manager) → Grows (knowledge_of m) (knowledge_of now) → (by : TxnName) (state : State) → same_state (state_of now by) state ≡ true → state_of m by ≡ state
vouched_is m now grows by state e =
    sym (state_eq (state_of now by) (state_of m by) (grows.vouched by (state_of m by) (state_self (state_of m by)))) ∙ state_eq (state_of now by) state e

-- so the states that a check has asked for are right
states_fit : (m now : Manager) (own : TxnName) → IsManaged m → IsSome (open_start m own) → Grows (knowledge_of m) (knowledge_of now)
    → (ps : List Stamped) (states : List State) → HaveNoStamp ps → AreStatesOf (knowledge_of m) (knowledge_of now) own ps states
    → AreFit (λ n. is_some (open_start m n)) (stamp_in m.journal) ps states
states_fit m now own managed is_open grows [] [] none each = tt
states_fit m now own managed is_open grows [] (state ∷ states) none each = absurd each
states_fit m now own managed is_open grows (p ∷ ps) [] none each = absurd each
states_fit m now own managed is_open grows (p ∷ ps) (state ∷ states) none each =
    (one (same_name p.by own) refl (rw none.0 at each.0), states_fit m now own managed is_open grows ps states none.1 each.1)
  where
    one : (t : Bool) → same_name p.by own ≡ t → IsStateBy (knowledge_of m) (knowledge_of now) t None p.by state → IsFit (λ n. is_some (open_start m n)) (stamp_in m.journal) p.by state
    one true e is = rw (is, name_eq p.by own e) (live_fits m managed own is_open)
    one false e is = rw (← vouched_is m now grows p.by state is.1) (state_fits m managed p.by)

-- and its answer is the one by names
pub cause_is : (m now : Manager) (snapshot : Snapshot) (ps : List Stamped) (cause : Option Cause) → IsManaged m → IsSome (open_start m snapshot.own) → Grows (knowledge_of m) (knowledge_of now)
    → HaveNoStamp ps → IsChecked (knowledge_of m) (knowledge_of now) snapshot ps cause
    → cause ≡ check (λ n. is_some (open_start m n)) (stamp_in m.journal) snapshot.start snapshot.own (map (λ p. p.by) ps)
cause_is m now snapshot ps cause managed is_open grows none checked =
    checked.is ∙ blocked_is_check (λ n. is_some (open_start m n)) (stamp_in m.journal) snapshot ps checked.states (states_fit m now snapshot.own managed is_open grows ps checked.states none checked.each)

-- ---- at whom a check looks

first_none : (ps : List Stamped) → HaveNoStamp ps → HaveNoStamp (take 1 ps)
first_none [] none = tt
first_none (p ∷ ps) none = (none.0, tt)

both_none : (ps qs : List Stamped) → HaveNoStamp ps → HaveNoStamp qs → HaveNoStamp (ps ++ qs)
both_none [] qs one two = two
both_none (p ∷ ps) qs one two = (one.0, both_none ps qs one.1 two)

newest_none : (vs : StampedVersions) → IsUnstamped vs → HaveNoStamp (newest_of vs)
newest_none vs none = first_none vs.pairs none.pairs

removal_none : (vs : StampedVersions) → IsUnstamped vs → HaveNoStamp (newest_and_touches vs)
removal_none vs none = both_none (take 1 vs.pairs) vs.touches (first_none vs.pairs none.pairs) none.touches

drops_none : (vs : StampedVersions) → IsUnstamped vs → HaveNoStamp (drops_of vs)
drops_none vs none = go vs.pairs none.pairs
  where
    go : (ps : List Stamped) → HaveNoStamp ps → HaveNoStamp (drops_in ps)
    go [] h = tt
    go (p ∷ ps) h = keep (no_value p.value) (go ps h.1)
      where
        keep : (t : Bool) → HaveNoStamp (drops_in ps) → HaveNoStamp (cond t (p ∷ drops_in ps) (drops_in ps))
        keep true rest = (h.0, rest)
        keep false rest = rest

newest_names : (vs : StampedVersions) → map (λ p. p.by) (newest_of vs) ≡ newest (forget_row vs)
newest_names vs = go vs.pairs
  where
    go : (ps : List Stamped) → map (λ p. p.by) (take 1 ps) ≡ map (λ p. p.by) (take 1 (map forget ps))
    go [] = refl
    go (p ∷ ps) = refl

removal_names : (vs : StampedVersions) → map (λ p. p.by) (newest_and_touches vs) ≡ newest (forget_row vs) ++ (forget_row vs).touches
removal_names vs = go vs.pairs
  where
    go : (ps : List Stamped) → map (λ p. p.by) (take 1 ps ++ vs.touches) ≡ map (λ p. p.by) (take 1 (map forget ps)) ++ map (λ p. p.by) vs.touches
    go [] = refl
    go (p ∷ ps) = refl

drops_names : (vs : StampedVersions) → map (λ p. p.by) (drops_of vs) ≡ droppers (forget_row vs)
drops_names vs = go vs.pairs
  where
    go : (ps : List Stamped) → map (λ p. p.by) (drops_in ps) ≡ map (λ p. p.by) (filter (λ p. no_value p.value) (map forget ps))
    go [] = refl
    go (p ∷ ps) = keep (no_value p.value) (go ps)
      where
        keep : (t : Bool) → map (λ p. p.by) (drops_in ps) ≡ map (λ p. p.by) (filter (λ p. no_value p.value) (map forget ps))
            → map (λ p. p.by) (cond t (p ∷ drops_in ps) (drops_in ps)) ≡ map (λ p. p.by) (cond t (forget p ∷ filter (λ p. no_value p.value) (map forget ps)) (filter (λ p. no_value p.value) (map forget ps)))
        keep true rest = ap (λ ns. p.by ∷ ns) rest
        keep false rest = rest

-- ---- at whom a write looks

module _ (s : Leaves) (none : AreUnstamped s) where
  at_row : (k : Key) → IsUnstamped (versions_of s k)
  at_row k = record { pairs = none.pairs k; touches = none.touches k }

  -- none of the records has a stamp
  pub looked_none : (w : Write) → HaveNoStamp (looked_at w (versions_of s))
  looked_none (AddVertex v) = newest_none _ (at_row (vertex_key v))
  looked_none (DropVertex v) = removal_none _ (at_row (vertex_key v))
  looked_none (AddEdge u v weight) =
      both_none _ _ (newest_none _ (at_row (arc_key u v))) (both_none _ _ (drops_none _ (at_row (vertex_key u))) (drops_none _ (at_row (vertex_key v))))
  looked_none (SetEdge u v weight) = newest_none _ (at_row (arc_key u v))
  looked_none (DropEdge u v) = newest_none _ (at_row (arc_key u v))

names_of_both : (ps qs : List Stamped) → map (λ p. p.by) (ps ++ qs) ≡ map (λ p. p.by) ps ++ map (λ p. p.by) qs
names_of_both [] qs = refl
names_of_both (p ∷ ps) qs = ap (λ ns. p.by ∷ ns) (names_of_both ps qs)

-- and their writers are those at whom the write looks
pub looked_names : (s : Leaves) (w : Write) → map (λ p. p.by) (looked_at w (versions_of s)) ≡ looked w (contents_of s)
looked_names s (AddVertex v) = newest_names (versions_of s (vertex_key v))
looked_names s (DropVertex v) = removal_names (versions_of s (vertex_key v))
looked_names s (AddEdge u v weight) =
    names_of_both (newest_of (versions_of s (arc_key u v))) _
    ∙ (λ i. newest_names (versions_of s (arc_key u v)) i ++ (names_of_both (drops_of (versions_of s (vertex_key u))) (drops_of (versions_of s (vertex_key v)))
    ∙ (λ j. drops_names (versions_of s (vertex_key u)) j ++ drops_names (versions_of s (vertex_key v)) j)) i)
looked_names s (SetEdge u v weight) = newest_names (versions_of s (arc_key u v))
looked_names s (DropEdge u v) = newest_names (versions_of s (arc_key u v))
