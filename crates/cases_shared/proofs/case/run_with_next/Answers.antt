use Rattle.std.proofs.Common.{◌<◌, length, refl, arith}
use Rattle.std.specs.Prelude.{slice_index_or}
use Rattle.std.proofs.lemmas.Bool.Decides.{nat_tests}
use Rattle.std.proofs.lemmas.Option.{slice_get-get_or}
use Rattle.cases_shared.proofs.CaseLemmas.{next_again, next_idle}
use Rattle.cases_shared.proofs.case.run_with_next.Goals as goal

pub run-requires-clause-one : goal.run-requires-clause-one
run-requires-clause-one g c = c.requires.passes.idle 0 c.args.one.now refl

pub run-requires-clause-two : goal.run-requires-clause-two
run-requires-clause-two g c =
    let rest = c.args.rest.now in
    let some : 0 < length rest = grind (arith, nat_tests, c.if-not-is_empty.true, c.is_empty.ensures) in
    next_idle c.args.store.now c.args.one.now rest c.requires.passes (slice_index_or rest 0 c.index-rest-0.result)
    (slice_get-get_or rest 0 c.index-rest-0.result some)

pub returns-then-not-is_empty : goal.returns-then-not-is_empty
returns-then-not-is_empty g c =
    let rest = c.args.rest.now in
    let some : 0 < length rest = grind (arith, nat_tests, c.if-not-is_empty.true, c.is_empty.ensures) in
    let done = c.run.ensures in
    next_again c.args.store.now c.args.one.now rest c.requires.passes (slice_index_or rest 0 c.index-rest-0.result)
    (slice_get-get_or rest 0 c.index-rest-0.result some) c.run.new.one c.run.new.two done.one done.two
    done.first_number done.second_number
