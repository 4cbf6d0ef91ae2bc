-- the search is as it should be, and each visit brings it nearer to the end
use Rattle.std.proofs.Common.{◌≡◌, ◌-◌}
use Rattle.kernel_sssp.specs.Search.{IsSearchOf, spread}
use Rattle.kernel_sssp.proofs.search.BucketSearch.settle.Given as goal

abbrev pub invariant-visits : goal.invariant-visits
invariant-visits l = IsSearchOf l.image l.self × (l.self.stage.root ≡ l.fn.self.stage.root) × (l.self.stage.bucket ≡ l.fn.self.stage.bucket)

abbrev pub decreases-visits : goal.decreases-visits
decreases-visits l = spread l.self - l.self.stage.made
