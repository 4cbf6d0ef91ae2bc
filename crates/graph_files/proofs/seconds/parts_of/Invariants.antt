-- the listings before this place are parted
use Rattle.std.proofs.Common.{◌≡◌, ℕ, length, map, take}
use Rattle.graphalytics_io.specs.declared.edges.Edge.{Edge}
use Rattle.graph_files.specs.Seconds.{AreParts}
use Rattle.graph_files.proofs.seconds.parts_of.Given as goal

abbrev pub invariant-listings : goal.invariant-listings
invariant-listings l = record {
  long : length l.places.items ≡ length l.edges;
  parts : (number : Edge → ℕ) → l.numbers ≡ map number l.edges → AreParts l.checks.kind l.checks.most number (take l.at l.edges) l.parts;
}
