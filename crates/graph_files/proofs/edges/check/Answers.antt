use Rattle.graphalytics_io.specs.FieldLines.{field_lines}
use Rattle.graph_files.proofs.UnrepeatedLemmas.{whole_new}
use Rattle.graph_files.proofs.edges.check.Goals as goal

pub returns-then-is_new-clause-ok : goal.returns-then-is_new-clause-ok
returns-then-is_new-clause-ok c = λ rules checked.
    whole_new rules c.args.checks.now (field_lines c.args.text.now) c.args.front checked c.requires.front (rw c.if-is_new.true at c.requires.whole)
    (rw c.if-is_new.true at c.requires.new)
