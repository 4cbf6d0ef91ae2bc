-- the arcs so far are relaxed
use Rattle.kernel_sssp.proofs.SearchLemmas.{IsFollowing}
use Rattle.kernel_sssp.proofs.search.BucketSearch.follow.Given as goal

abbrev pub invariant-arcs : goal.invariant-arcs
invariant-arcs l = IsFollowing l.image l.visit l.i l.fn.self l.self
