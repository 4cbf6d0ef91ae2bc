-- settled up to the bucket at hand
use Rattle.std.proofs.Common.{◌≡◌, ◌-◌}
use Rattle.kernel_sssp.specs.Search.{IsSearchOf}
use Rattle.kernel_sssp.proofs.kernel.search_alone.Given as goal

abbrev pub invariant-buckets : goal.invariant-buckets
invariant-buckets l = IsSearchOf l.image l.search × (l.search.stage.root ≡ l.root)

abbrev pub decreases-buckets : goal.decreases-buckets
decreases-buckets l = 18446744073709551616 - l.search.stage.bucket
