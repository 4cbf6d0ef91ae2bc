use Rattle.std.proofs.Common.{arith}
use Rattle.source_run.proofs.LeavesLemmas.{graph_rows}
use Rattle.source_run.proofs.leaves.rows_of_graph.Goals as goal

pub overflow_add-result : goal.overflow_add-result
overflow_add-result c =
    let rows = (graph_rows c.args.kind c.args.input.now.ids c.args.input.now.edges).0 c.in-Directed.is in
    omega (arith, rows, c.requires, c.len-vertices.ensures, c.len-edges.ensures)

pub overflow_mul-result : goal.overflow_mul-result
overflow_mul-result c =
    let rows = (graph_rows c.args.kind c.args.input.now.ids c.args.input.now.edges).1 c.in-Undirected.is in
    omega (arith, rows, c.requires, c.len-vertices.ensures, c.len-edges.ensures)

pub overflow_add-result-in-Undirected : goal.overflow_add-result-in-Undirected
overflow_add-result-in-Undirected c =
    let rows = (graph_rows c.args.kind c.args.input.now.ids c.args.input.now.edges).1 c.in-Undirected.is in
    omega (arith, rows, c.requires, c.len-vertices.ensures, c.len-edges.ensures)

pub returns-in-Directed : goal.returns-in-Directed
returns-in-Directed c =
    let rows = (graph_rows c.args.kind c.args.input.now.ids c.args.input.now.edges).0 c.in-Directed.is in
    omega (arith, rows, c.requires, c.len-vertices.ensures, c.len-edges.ensures)

pub returns-in-Undirected : goal.returns-in-Undirected
returns-in-Undirected c =
    let rows = (graph_rows c.args.kind c.args.input.now.ids c.args.input.now.edges).1 c.in-Undirected.is in
    omega (arith, rows, c.requires, c.len-vertices.ensures, c.len-edges.ensures)
