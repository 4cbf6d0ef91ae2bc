-- what the lines that are left stand for behind the edges so far is what the text stands for
use Rattle.std.proofs.Common.{◌≡◌, length}
use Rattle.graph_files.specs.EdgeFiles.{Rules, edges_of, edges_behind}
use Rattle.graph_files.specs.Kept.{IsCheckedBy}
use Rattle.graph_files.proofs.listings.read_rest.Given as goal

abbrev pub invariant-lines : goal.invariant-lines
invariant-lines l = (rules : Rules) → IsCheckedBy rules l.checks
    → edges_behind rules (record { listings = l.reading.listings; edges = l.reading.edges }) l.lines ≡ edges_of rules l.text

abbrev pub decreases-lines : goal.decreases-lines
decreases-lines l = length l.lines
