use Rattle.row_writes.proofs.checks.check.Goals as goal

pub returns-in-AddEdge-clause-answer : goal.returns-in-AddEdge-clause-answer
returns-in-AddEdge-clause-answer g c = λ graph shows tells. rw c.in-AddEdge.is (c.check_new_edge.ensures.answer graph c.in-AddEdge.weight shows)
