use Rattle.std.proofs.Common.{◌∙◌}
use Rattle.std.proofs.lemmas.List.{length-set}
use Rattle.graph_files.proofs.SecondLemmas.{parts_step}
use Rattle.graph_files.proofs.seconds.parts_of.Goals as goal

pub listings-preserved : goal.listings-preserved
listings-preserved c = record {
  long = length-set c.listings.places.items c.listings.at c.len.result ∙ c.listings.invariant.long;
  parts = λ number is.
      parts_step c.args.checks.now.kind c.args.checks.now.most number c.args.edges.now c.args.numbers.now c.listings.at (record { u = 0; v = 0; weight = 0 }) _ _ c.listings-test.true is
      (c.listings.invariant.parts number is) (rw c.if-not-branch.false at c.in_ok-take.ensures.taken);
}
