-- the listings before this place don't list the edge
use Rattle.std.proofs.Common.{◌≡◌, None, take}
use Rattle.graph_files.specs.EdgeFiles.{listed_weight}
use Rattle.graph_files.proofs.listings.weight_of.Given as goal

abbrev pub invariant-listings : goal.invariant-listings
invariant-listings l = listed_weight (take l.i l.listings) l.u l.v ≡ None
