use Rattle.pass_writes.proofs.CheckLemmas.{found_asking, named_asked, shown, tells_edges}
use Rattle.pass_writes.proofs.StateLemmas.{looked_through}
use Rattle.pass_prunes.specs.PassSteps.Passes.{state_of}
use Rattle.pass_writes.specs.Found.{view_of}
use Rattle.pass_writes.proofs.checks.check_as.Goals as goal

pub check-checked-requires-clause-named : goal.check-checked-requires-clause-named
check-checked-requires-clause-named g c =
    named_asked c.rows_in_hand_are_known.ensures c.args.store.now c.args.pass.now c.args.pass.now
    c.args.taken.now.list.items c.args.clock g.B.Asker.asking c.requires.asking c.requires.reading.hand c.requires.reading.learnt
    c.args.snapshot.now c.requires.reading.sees c.lend-states.result c.lend-states.result c.lend-states.ensures.lent

pub returns-clause-found : goal.returns-clause-found
returns-clause-found g c =
    let asking = g.B.Asker.asking in
    let view = view_of c.args.store.now.accounts.config.kind (state_of c.args.pass.now) in
    let all = shown c.rows_in_hand_are_known.ensures c.args.store.now c.args.pass.now c.give_back.new.pass
    c.args.taken.now.list.items c.args.clock asking c.requires.asking c.requires.reading.hand c.requires.reading.learnt
    c.args.snapshot.now c.requires.reading.sees c.lend-states.result c.check-checked.new.states
    c.lend-states.ensures.lent in
    let told = tells_edges _ c.args.has_edges view c.args.write (λ v answer h. h) c.requires.known.edges in
    found_asking c.rows_in_hand_are_known.ensures c.args.store.now c.args.pass.now c.give_back.new.pass
    c.args.taken.now.list.items c.args.clock asking c.requires.asking c.requires.reading.hand c.requires.reading.learnt
    c.args.snapshot.now c.requires.reading.sees c.lend-states.result c.check-checked.new.states
    c.lend-states.ensures.lent c.args.write c.requires.held c.check-checked.result
    (c.check-checked.ensures.answer view all told)
    (looked_through c.args.pass.now c.lend-states.new.pass c.give_back.new.pass asking.sight _
    c.lend-states.ensures.kept c.give_back.ensures.looked (λ i. (c.requires.asking i).sight))
    c.give_back.ensures.looks
