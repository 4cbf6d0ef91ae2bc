use Rattle.std.proofs.Common.{◌*◌, []}
use Rattle.graph_maker.proofs.LawLemmas.{drawn_are_edges, none_are_edges}
use Rattle.graph_maker.proofs.laws.pairs_are_edges.Goals as goal

pub returns : goal.returns
returns c = λ seed vertices wanted some. drawn_are_edges vertices wanted (2 * wanted) seed [] some (none_are_edges vertices wanted)
