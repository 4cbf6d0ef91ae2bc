-- What a manager answers, and records without stamps.
use Rattle.std.proofs.Common.{◌≡◌, ℕ, ◌≤◌, List, [], ◌∷◌, refl, sym, ◌∙◌, ap, cond, arith, inl}
use Rattle.std.specs.Prelude.{Bool, true, false, max, Option, Some, None, is_some}
use Rattle.graph_model.specs.declared.journal.Commit.{Commit}
use Rattle.graph_model.specs.declared.journal.TxnName.{TxnName}
use Rattle.graph_model.specs.declared.state.State.{State}
use Rattle.graph_model.specs.declared.state.State.TheVariants.{Live, Committed, Aborted}
use Rattle.graph_model.specs.Conflict.{same_name}
use Rattle.graph_model.specs.Transactions.{stamp_in}
use Rattle.graph_model.proofs.TestLemmas.{self_eq, eq_of}
use Rattle.store_model.specs.Stamped.{Stamped, StampedVersions, AreStamped, IsStamped}
use Rattle.txn_manager.specs.Manager.{Manager, state_from, state_of, open_start}
use Rattle.undo_chain.specs.States.{IsAnswer}
use Rattle.leaf_rows.specs.Known.{greatest_stamp, same_state, knowledge_of}
use Rattle.leaf_rows.specs.Readers.{HaveNoStamp, IsUnstamped}
use Rattle.store_model.specs.Versions.{read}
use Rattle.store_model.specs.Stamped.{read_stamped, forget_row}
use Rattle.store_model.proofs.StampedLemmas.{read_forgets}

-- ---- states

pub state_self : (a : State) → same_state a a ≡ true
state_self Live = refl
state_self (Committed c) = self_eq c
state_self Aborted = refl

pub state_eq : (a b : State) → same_state a b ≡ true → a ≡ b
state_eq Live Live e = refl
state_eq Live (Committed d) e = cc
state_eq Live Aborted e = cc
state_eq (Committed c) Live e = cc
state_eq (Committed c) (Committed d) e = ap Committed (eq_of c d e)
state_eq (Committed c) Aborted e = cc
state_eq Aborted Live e = cc
state_eq Aborted (Committed d) e = cc
state_eq Aborted Aborted e = refl

-- a transaction's stamp is at most the greatest
stamp_below : (cs : List Commit) (by : TxnName) (stamp : ℕ) → stamp_in cs by ≡ Some stamp → stamp ≤ greatest_stamp cs
stamp_below [] by stamp e = cc
stamp_below (c ∷ cs) by stamp e = go (same_name c.by by) refl (stamp_below cs by stamp)
  where
    go : (t : Bool) → same_name c.by by ≡ t → (stamp_in cs by ≡ Some stamp → stamp ≤ greatest_stamp cs) → stamp ≤ max c.stamp (greatest_stamp cs)
    go true h rest =
        let same : Some c.stamp ≡ Some stamp = sym (ap (λ t. cond t (Some c.stamp) (stamp_in cs by)) h) ∙ e in
        let is : c.stamp ≡ stamp = cc in
        omega (arith, is)
    go false h rest =
        let below : stamp ≤ greatest_stamp cs = rest (sym (ap (λ t. cond t (Some c.stamp) (stamp_in cs by)) h) ∙ e) in
        omega (arith, below)

-- what a manager says is an answer
pub answers : (m : Manager) (by : TxnName) → IsAnswer (knowledge_of m) by (state_of m by)
answers m by = go (stamp_in m.journal by) (is_some (open_start m by)) refl
  where
    go : (stamp : Option ℕ) (is_open : Bool) → stamp_in m.journal by ≡ stamp → IsAnswer (knowledge_of m) by (state_from stamp is_open)
    go None true e = e
    go None false e = e
    go (Some stamp) is_open e =
        let below : stamp ≤ greatest_stamp m.journal = stamp_below m.journal by stamp e in
        inl (e, omega (arith, below))

-- ---- no stamps

pub unstamped : (stamps : TxnName → Option ℕ) (ps : List Stamped) → HaveNoStamp ps → AreStamped stamps ps
unstamped stamps [] none = tt
unstamped stamps (p ∷ ps) none = (rw none.0 tt, unstamped stamps ps none.1)

pub unstamped_row : (stamps : TxnName → Option ℕ) (vs : StampedVersions) → HaveNoStamp vs.pairs → HaveNoStamp vs.touches → IsStamped stamps vs
unstamped_row stamps vs pairs touches = record { pairs = unstamped stamps vs.pairs pairs; touches = unstamped stamps vs.touches touches }

-- a read of a row without stamps
pub read_unstamped : (stamps : TxnName → Option ℕ) (start : ℕ) (own : TxnName) (vs : StampedVersions) → IsUnstamped vs
    → read_stamped stamps start own vs ≡ read stamps start own (forget_row vs)
read_unstamped stamps start own vs none = read_forgets stamps start own vs (unstamped_row stamps vs none.pairs none.touches)
