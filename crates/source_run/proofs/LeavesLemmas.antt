-- Rows counted up to as many as fill the greatest number of leaves.
use Rattle.std.proofs.Common.{◌≡◌, ℕ, zero, suc, ◌+◌, ◌*◌, ◌/◌, ◌<◌, ◌≤◌, List, [], ◌∷◌, length, take, get_or, ◌∙◌, arith}
use Rattle.std.specs.Prelude.{min}
use Rattle.graph_model.specs.declared.write.Kind.{Kind}
use Rattle.graph_model.specs.declared.write.Kind.TheVariants.{Directed, Undirected}
use Rattle.graph_model.specs.Inserted.{inserted}
use Rattle.graphalytics_io.specs.declared.edges.Edge.{Edge}
use Rattle.graphalytics_io.specs.Load.{load_of}
use Rattle.run_model.specs.declared.command.Command.{Command}
use Rattle.run_model.proofs.SetLemmas.{sum_cons}
use Rattle.source_run.specs.Leaves.{asked_by, asked_in, counted}
use Rattle.source_run.proofs.RunLemmas.{edge_rows, load_rows}

-- counted in two steps
pub counted_sum : (a b : ℕ) → counted (counted a + b) ≡ counted (a + b)
counted_sum a b = omega arith

pub counted_most : (a : ℕ) → counted a ≤ 13500416
counted_most a = omega arith

-- as many leaves as the rows fill, however many more there are
pub leaves_counted : (rows : ℕ) → min 131072 (1 + counted rows / 103) ≡ min 131072 (1 + rows / 103)
leaves_counted rows = omega arith

-- one line more
pub asked_more : (kind : Kind) (cs : List Command) (i : ℕ) (d : Command) → i < length cs → asked_in kind (take (suc i) cs) ≡ asked_in kind (take i cs) + asked_by kind (get_or cs i d)
asked_more kind [] i d lt = absurd (omega (arith, lt))
asked_more kind (c ∷ cs) zero d lt = omega arith
asked_more kind (c ∷ cs) (suc i) d lt =
    let more = asked_more kind cs i d (omega (arith, lt)) in
    sum_cons (λ x. asked_by kind x) c (take (suc i) cs) ∙ omega (arith, more, sum_cons (λ x. asked_by kind x) c (take i cs))

-- the rows of a graph
pub graph_rows : (kind : Kind) (ids : List ℕ) (edges : List Edge) → (kind ≡ Directed → inserted kind (load_of ids edges) ≡ length ids + length edges) × (kind ≡ Undirected → inserted kind (load_of ids edges) ≡ length ids + 2 * length edges)
graph_rows Directed ids edges = ((λ e. load_rows Directed ids edges _ (edge_rows Directed edges) ∙ omega arith), (λ e. cc))
graph_rows Undirected ids edges = ((λ e. cc), (λ e. load_rows Undirected ids edges _ (edge_rows Undirected edges) ∙ omega arith))
