-- The worked examples of the exact calls of one owner.
use Rattle.std.proofs.Common.{◌≡◌, ℕ, refl, sym, ◌∙◌, ap, arith}
use Rattle.std.specs.Prelude.{Option, Some, None}
use Rattle.graph_model.specs.declared.write.Write.{Write}
use Rattle.graph_model.specs.declared.write.Write.TheVariants.{AddVertex, DropVertex, AddEdge, SetEdge, DropEdge}
use Rattle.graph_model.specs.declared.refusal.Cause.TheVariants.{Later, Holder}
use Rattle.graph_model.specs.declared.refusal.Refusal.{Refusal}
use Rattle.graph_model.specs.declared.refusal.Refusal.TheVariants as refusals
use Rattle.graph_model.specs.declared.journal.TxnName.{TxnName}
use Rattle.graph_model.specs.JournalExamples.{name}
use Rattle.graph_model.specs.Refused.{refused}
use Rattle.graph_model.specs.AccountSteps.{view_of}
use Rattle.graph_model.specs.OwnerCalls.{Core, account_here, conflict_here}
use Rattle.graph_model.specs.OwnerExamples.{core, with_rows, OwnerWriteExamples, OwnerRefusalExamples, FullExamples, ServiceExamples}
use Rattle.graph_model.proofs.PlaceLemmas.{some_eq}
use Rattle.graph_model.proofs.JournalExampleLemmas.{by_view, other_vertex}
use Rattle.graph_model.proofs.ExampleLemmas.{some_none, true_false}

-- a commit is no open transaction
later_holder : {P : Type 0} {stamp : ℕ} {by : TxnName} → Later stamp ≡ Holder by → P
later_holder e = cc

-- what the open transaction meets, whatever start it is said to have
met_here : (owner : Core) (start : ℕ) (w : Write) → ◌≡◌ {A = Option ℕ} (Some 1) (Some start) → conflict_here owner 1 w ≡ conflict_here owner start w
met_here owner start w began = ap (λ n. conflict_here owner n w) (some_eq 1 start began)

pub owner_writes : OwnerWriteExamples
owner_writes = record {
  free = (1, refl, (by_view (AddVertex 5), refl, refl));
  free_edge = (1, refl, (by_view (SetEdge 1 4 5), refl, refl));
  not_through_a_commit = λ is. some_none (Later 2) (met_here core is.0 (SetEdge 1 2 5) is.1 ∙ is.2.1);
  not_through_an_open_write = λ is. some_none (Holder (name 3 1)) (met_here core is.0 (SetEdge 2 3 5) is.1 ∙ is.2.1);
  commit_named = (1, refl, (by_view (SetEdge 1 2 5), refl, refl));
  holder_named = (1, refl, (by_view (SetEdge 2 3 5), refl, refl));
  not_named_for_another_edge = λ is. later_holder (some_eq (Later 2) (Holder (name 3 1)) (met_here core is.0 (SetEdge 1 2 5) is.1 ∙ is.2.1));
}

-- what the open transaction sees refuses, whatever start it is said to have
seen_from : (start : ℕ) (w : Write) (refusal : Refusal) → ◌≡◌ {A = Option ℕ} (Some 1) (Some start) → refused (view_of (account_here core) start) w ≡ Some refusal → refused (view_of (account_here core) 1) w ≡ Some refusal
seen_from start w refusal began is = ap (λ n. refused (view_of (account_here core) n) w) (some_eq 1 start began) ∙ is

-- what it allows isn't refused
allows : (w : Write) (refusal : Refusal) (start : ℕ) → refused (view_of (account_here core) 1) w ≡ None → ◌≡◌ {A = Option ℕ} (Some 1) (Some start) → refused (view_of (account_here core) start) w ≡ Some refusal → ⊥
allows w refusal start none began is = some_none refusal (sym (seen_from start w refusal began is) ∙ none)

pub owner_refusals : OwnerRefusalExamples
owner_refusals = record {
  loop = (1, refl, (refl, refl));
  no_loop = λ is. allows (SetEdge 1 4 5) refusals.SelfLoop is.0 (by_view (SetEdge 1 4 5)) is.1 is.2.0;
  no_vertex = (1, refl, (by_view (AddEdge 1 9 5), refl));
  another_vertex = λ is. other_vertex 9 1 refl (sym (by_view (AddEdge 1 9 5)) ∙ seen_from is.0 (AddEdge 1 9 5) (refusals.NoVertex 1) is.1 is.2.0);
  both_vertices = λ is. allows (SetEdge 1 4 5) (refusals.NoVertex 9) is.0 (by_view (SetEdge 1 4 5)) is.1 is.2.0;
  vertex_exists = (1, refl, (by_view (AddVertex 4), refl));
  no_such_vertex = λ is. allows (AddVertex 5) refusals.VertexExists is.0 (by_view (AddVertex 5)) is.1 is.2.0;
  edge_exists = (1, refl, (by_view (AddEdge 4 1 5), refl));
  no_such_edge = λ is. allows (AddEdge 1 3 5) refusals.EdgeExists is.0 (by_view (AddEdge 1 3 5)) is.1 is.2.0;
  no_edge = (1, refl, (by_view (DropEdge 1 3), refl));
  an_edge = λ is. allows (SetEdge 1 4 5) refusals.NoEdge is.0 (by_view (SetEdge 1 4 5)) is.1 is.2.0;
  has_edges = (1, refl, (by_view (DropVertex 1), refl));
  has_none_to_look_at = λ is. allows (SetEdge 1 4 5) refusals.HasEdges is.0 (by_view (SetEdge 1 4 5)) is.1 is.2.0;
}

pub full_leaves : FullExamples
full_leaves = record {
  filled = (1, refl, (by_view (AddVertex 5), refl, refl, refl, omega arith, refl));
  not_one_row_before = λ is. omega (arith, is.2.4);
  not_in_four_leaves = λ is. omega (arith, is.2.4);
  not_for_a_weight = λ is. true_false (sym is.2.2);
  not_before_a_conflict = λ is. some_none (Holder (name 3 1)) (met_here (with_rows 100) is.0 (AddVertex 6) is.1 ∙ is.2.1);
}

pub services : ServiceExamples
services = record {
  counted = refl;
  not_uncounted = λ is. let count : ◌≡◌ {A = ℕ} 7 8 = ap (λ (c : Core). c.served) is in omega (arith, count);
  first = refl;
  last = refl;
  not_above = refl;
}
