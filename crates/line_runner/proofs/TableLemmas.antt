-- The table of community labels, of each kind of graph.
use Rattle.std.proofs.Common.{◌≡◌, ℕ, List, length, refl, sym, ap, ◌∙◌}
use Rattle.std.proofs.lemmas.List.{length-map}
use Rattle.graph_model.specs.declared.table.Entry.{Entry}
use Rattle.graph_model.specs.declared.write.Kind.{Kind}
use Rattle.graph_model.specs.declared.write.Kind.TheVariants.{Directed, Undirected}
use Rattle.graph_model.specs.Graph.{Graph, IsSymmetric}
use Rattle.graph_model.specs.Tables.{IsCdlp}
use Rattle.run_model.specs.declared.answer.Answer.TheVariants as answers
use Rattle.run_model.specs.Answering.{table_answer}

-- the labels are those of the kind, and the answer counts them
pub labels_of_kind : (kind : Kind) (g : Graph) (rounds : ℕ) (table : List Entry) → (kind ≡ Undirected → IsSymmetric g) → IsCdlp Directed g rounds table → (IsSymmetric g → IsCdlp Undirected g rounds table)
    → (table_answer g ≡ answers.Table (length table)) × IsCdlp kind g rounds table
labels_of_kind kind g rounds table symmetric directed undirected = (ap answers.Table (sym (ap length directed.vertices) ∙ length-map table _), by_kind kind symmetric)
  where
    by_kind : (kind : Kind) → (kind ≡ Undirected → IsSymmetric g) → IsCdlp kind g rounds table
    by_kind Directed symmetric = directed
    by_kind Undirected symmetric = undirected (symmetric refl)
