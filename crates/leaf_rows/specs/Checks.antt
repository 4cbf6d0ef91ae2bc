-- What a check of a write answers: by what its view refuses, and by who stands against it.
use Rattle.std.specs.Prelude.{◌≡◌, Result}
use Rattle.graph_model.specs.declared.write.Kind.{Kind}
use Rattle.graph_model.specs.declared.write.Kind.TheVariants.{Directed, Undirected}
use Rattle.graph_model.specs.declared.write.Write.{Write}
use Rattle.graph_model.specs.declared.refusal.Refusal.{Refusal}
use Rattle.graph_model.specs.Graph.{Graph, IsSymmetric}
use Rattle.graph_model.specs.Refused.{refused}
use Rattle.store_model.specs.Check.{looked}
use Rattle.leaf_store.specs.Leaves.{Leaves, contents_of}
use Rattle.row_writes.specs.Checks.{answer_of, refusal_in}
use Rattle.leaf_rows.specs.declared.reader.Reader.{Reader}
use Rattle.leaf_rows.specs.Readers.{cause_for}

-- the answer to a write, where the reader sees this graph
abbrev pub IsChecked : {X : Type 0} → Reader → Leaves → Graph → Write → Result X Refusal → Type 0
IsChecked r rows g w result =
    refusal_in result ≡ answer_of (refused g w) (cause_for r (looked w (contents_of rows)))

-- an undirected graph goes both ways
abbrev pub FitsKind : Kind → Graph → Type 0
FitsKind Directed g = Unit {0}
FitsKind Undirected g = IsSymmetric g
