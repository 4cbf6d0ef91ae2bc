use Rattle.std.proofs.lemmas.Option.{slice_get_within}
use Rattle.kernel_sssp.proofs.TableLemmas.{search_table, no_place}
use Rattle.kernel_sssp.proofs.kernel.run_by_width.Goals as goal

pub returns-in_default-clause-no_root : goal.returns-in_default-clause-no_root
returns-in_default-clause-no_root g c = λ _. no_place c.args.image.now c.args.root c.in_default.ensures.absent

pub least_weights-requires-clause-root : goal.least_weights-requires-clause-root
least_weights-requires-clause-root g c κs within = slice_get_within c.args.image.now.vertices c.in-Some.place c.args.root c.in-Some.ensures.found

pub returns-clause-table : goal.returns-clause-table
returns-clause-table g c = λ graph is.
    search_table c.args.image.now graph is c.in-Some.place c.args.root c.in-Some.ensures.found c.in_ok-distances.distances.items (c.in_ok-distances.ensures.searched graph is)
    c.as_slice.result.now c.as_slice.ensures.value _ c.in_ok-table.ensures
