-- A check of the rows in cells, as the manager's reader sees it.
use Rattle.std.proofs.Common.{◌≡◌, ℕ, refl, sym, ◌∙◌, ap, subst}
use Rattle.std.specs.Prelude.{Bool, Option, Some, None, Result, IsSome, is_some}
use Rattle.graph_model.specs.declared.write.Write.{Write}
use Rattle.graph_model.specs.declared.write.Write.TheVariants.{AddVertex, DropVertex, AddEdge, SetEdge, DropEdge}
use Rattle.graph_model.specs.declared.refusal.Cause.{Cause}
use Rattle.graph_model.specs.declared.refusal.Refusal.{Refusal}
use Rattle.graph_model.specs.Graph.{Graph, has_edges}
use Rattle.graph_model.specs.Refused.{refused}
use Rattle.graph_model.specs.Transactions.{stamp_in}
use Rattle.store_model.specs.Check.{check, looked}
use Rattle.store_model.specs.Stamped.{read_stamped}
use Rattle.txn_manager.specs.Manager.{Manager, IsManaged, open_start}
use Rattle.undo_chain.specs.declared.states.Snapshot.{Snapshot}
use Rattle.undo_chain.specs.States.{Grows}
use Rattle.leaf_store.specs.Leaves.{Leaves, contents_of, versions_of}
use Rattle.row_writes.specs.Checks.{IsAnswer, ShowsHeld, TellsEdges, answer_of, looked_at}
use Rattle.leaf_rows.specs.declared.reader.Reader.{Reader}
use Rattle.leaf_rows.specs.Checks.{IsChecked}
use Rattle.leaf_rows.specs.Held.{rows_in}
use Rattle.leaf_rows.specs.Known.{knowledge_of}
use Rattle.leaf_rows.specs.Readers.{AreUnstamped, Shows, cause_for}
use Rattle.leaf_rows.proofs.CauseLemmas.{cause_is, looked_names, looked_none}
use Rattle.leaf_rows.proofs.KnownLemmas.{read_unstamped}

-- whether a vertex has edges need be told of the one alone that the write removes
pub tells_edges : (post : ℕ → Bool → Type 0) (g : Graph) (w : Write) → ((v : ℕ) (answer : Bool) → w ≡ DropVertex v → post v answer → answer ≡ has_edges g v) → TellsEdges post g w
tells_edges post g (AddVertex v) tells = tt
tells_edges post g (DropVertex v) tells = λ answer h. tells v answer refl h
tells_edges post g (AddEdge u v weight) tells = tt
tells_edges post g (SetEdge u v weight) tells = tt
tells_edges post g (DropEdge u v) tells = tt

-- of two causes that are the same unless the view refuses the write
same_answer : (view : Option Refusal) (one other : Option Cause) → (view ≡ None → one ≡ other) → answer_of view one ≡ answer_of view other
same_answer (Some refusal) one other same = refl
same_answer None one other same = ap (answer_of None) (same refl)

module _ (r : Reader) (m : Manager) (snapshot : Snapshot) (s : Leaves) (g : Graph) (same : m ≡ r.manager.now) (start : snapshot.start ≡ r.start) (own : snapshot.own ≡ r.by) (none : AreUnstamped s) where
  -- a graph that the rows show to the reader they show in their cells
  pub shows_held : Shows r s g → ShowsHeld (stamp_in m.journal) snapshot (rows_in s) g
  shows_held shows = λ k held.
      (λ i. read_stamped (stamp_in (same i).journal) (start i) (own i) (versions_of s k))
      ∙ read_unstamped (stamp_in r.manager.now.journal) r.start r.by (versions_of s k) (record { pairs = none.pairs k; touches = none.touches k }) ∙ shows k

  -- the answer by whoever knows where writers stand is the reader's
  pub answer_is : {X : Type 0} (now : Manager) (w : Write) (result : Result X Refusal) → IsManaged r.manager.now
      → IsSome (open_start r.manager.now r.by) → Grows (knowledge_of m) (knowledge_of now)
      → IsAnswer (knowledge_of m) (knowledge_of now) snapshot (rows_in s) g w result → IsChecked r s g w result
  answer_is now w result managed is_open grows answer = answer.is ∙ same_answer (refused g w) answer.cause _ asked
    where
      is_managed : IsManaged m
      is_managed = subst IsManaged (sym same) managed

      opened : IsSome (open_start m snapshot.own)
      opened = rw (same, own) is_open

      asked : refused g w ≡ None → answer.cause ≡ cause_for r (looked w (contents_of s))
      asked allowed =
          cause_is m now snapshot (looked_at w (versions_of s)) answer.cause is_managed opened grows (looked_none s none w) (answer.checked allowed)
          ∙ (λ i. check (λ n. is_some (open_start (same i) n)) (stamp_in (same i).journal) (start i) (own i) (looked_names s w i))
