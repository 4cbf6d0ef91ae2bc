use Rattle.std.proofs.lemmas.Option.{slice_get-get_or}
use Rattle.kernel_wcc.proofs.LabelLemmas.{joined_none, ends_within, joined_more}
use Rattle.kernel_wcc.proofs.labels.join_ends.Goals as goal

pub arcs-init : goal.arcs-init
arcs-init c = joined_none c.args.labels.now.items c.args.place c.args.arcs.now c.requires.low

pub join-requires-clause-within : goal.join-requires-clause-within
join-requires-clause-within c =
    let at = slice_get-get_or c.args.arcs.now c.arcs.i (record { other = 0; weight = 0 }) c.arcs-test.true in
    ends_within c.args.labels.now.items c.args.place c.args.arcs.now c.arcs.i c.arcs.labels.items c.arcs.invariant c.requires.place c.requires.within _ at

pub arcs-preserved : goal.arcs-preserved
arcs-preserved c =
    let at = slice_get-get_or c.args.arcs.now c.arcs.i (record { other = 0; weight = 0 }) c.arcs-test.true in
    joined_more c.args.labels.now.items c.args.place c.args.arcs.now c.arcs.i c.arcs.labels.items c.arcs.invariant _ at c.join.new.labels.items c.join.ensures
