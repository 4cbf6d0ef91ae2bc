use Rattle.std.proofs.Common.{rules}
use Rattle.graph_files.specs.EdgeFiles.{edge_of}
use Rattle.graph_files.specs.Kept.{every_id}
use Rattle.graph_files.proofs.HalvesLemmas.{read_is, listed_cut}
use Rattle.graph_files.proofs.halves.+halves.Goals as goal

pub read_both-returns-in_ok-joined-in-Some-Some : goal.read_both-returns-in_ok-joined-in-Some-Some
read_both-returns-in_ok-joined-in-Some-Some g t c = λ text cut.
    let first = read_is c.args.weights c.args.front.now c.join-first.result.0 c.in_ok-first.first c.in-Some-Some.first c.join-first.ensures.first (search rules) (search rules) in
    let second = read_is c.args.weights c.args.behind.now c.join-first.result.1 c.in_ok-second.second c.in-Some-Some.second c.join-first.ensures.second (search rules) (search rules) in
    rw c.in_ok-joined-in-Some-Some.ensures
    (listed_cut (edge_of every_id c.args.weights) text c.args.front.now c.args.behind.now c.in-Some-Some.first c.in-Some-Some.second cut first second)
