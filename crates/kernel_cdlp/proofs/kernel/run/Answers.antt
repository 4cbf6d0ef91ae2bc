use Rattle.std.proofs.Common.{map, subst}
use Rattle.graph_model.specs.Graph.{Graph}
use Rattle.graph_model.specs.Tables.{IsCdlp}
use Rattle.graph_model.specs.declared.write.Kind.TheVariants.{Directed}
use Rattle.graph_image.specs.Entries.{AreEntries}
use Rattle.graph_image.specs.Images.{IsImageOf}
use Rattle.kernel_cdlp.specs.Rounds.{value_of}
use Rattle.kernel_cdlp.proofs.RoundLemmas.{directed_table, undirected_table}
use Rattle.kernel_cdlp.proofs.kernel.run.Goals as goal

table_is : (g : _) (c : goal.After-drop-labels-2 g) (h : Graph) → IsImageOf c.args.image.now h → IsCdlp Directed h c.args.rounds c.in_ok-table.table
table_is g c h is = directed_table c.args.image.now h is c.args.rounds c.in_ok-labels.labels.items c.in_ok-table.table (c.in_ok-labels.ensures.labels h is)
    (subst (λ l. AreEntries c.args.image.now.vertices (map (value_of c.args.image.now.vertices) l) c.in_ok-table.table) c.as_slice.ensures.value c.in_ok-table.ensures)

pub returns-clause-directed : goal.returns-clause-directed
returns-clause-directed g c = table_is g c

pub returns-clause-undirected : goal.returns-clause-undirected
returns-clause-undirected g c = λ h is symmetric. undirected_table h c.args.rounds c.in_ok-table.table symmetric (table_is g c h is)
