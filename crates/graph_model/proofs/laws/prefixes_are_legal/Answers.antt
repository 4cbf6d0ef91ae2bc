use Rattle.graph_model.proofs.LegalLemmas.{legal_prefix, graph_at-append}
use Rattle.graph_model.proofs.laws.prefixes_are_legal.Goals as goal

pub returns-clause-legal : goal.returns-clause-legal
returns-clause-legal c = legal_prefix

pub returns-clause-ends : goal.returns-clause-ends
returns-clause-ends c = λ kind journal stamp legal within. legal.ends stamp within

pub returns-clause-graphs : goal.returns-clause-graphs
returns-clause-graphs c = graph_at-append
