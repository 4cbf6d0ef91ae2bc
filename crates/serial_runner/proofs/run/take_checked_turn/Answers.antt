use Rattle.std.proofs.Common.{◌≡◌, ◌-◌, ◌<◌, suc, length, arith, slice_index_or}
use Rattle.std.specs.Prelude.{slice_get, Some}
use Rattle.std.proofs.lemmas.Option.{slice_get-get_or}
use Rattle.std.proofs.lemmas.Result.{on_ok_weaker}
use Rattle.graph_model.proofs.HistoryLemmas.{get_within}
use Rattle.serial_runner.proofs.PrepareLemmas.{was, mid_count, mid_ready, mid_goes, takes, takes_service, ok_both, on_err, stuck_here}
use Rattle.serial_runner.proofs.run.take_checked_turn.Goals as goal

pub returns-then-number-eq0-clause-turns : goal.returns-then-number-eq0-clause-turns
returns-then-number-eq0-clause-turns g c =
    let core = g.E.StepEngine.core c.args.engine.now in
    ok_both c.take_turn.result _ _ c.take_turn.ensures.turns c.take_turn.ensures.goes (λ ended turns goes.
    takes_service core c.args.jobs.now c.args.checks.now c.args.number c.if-number-eq0.true ended _ c.take_turn.new.jobs turns goes)

pub returns-in_err-prepare-clause-err : goal.returns-in_err-prepare-clause-err
returns-in_err-prepare-clause-err g c =
    let core = g.E.StepEngine.core c.args.engine.now in
    let u = c.requires.under.4 in
    on_err c.from_residual.result (stuck_here u.read core c.args.jobs.now c.prepare.new.jobs u.under c.in_err-prepare.ensures.err)

pub take_turn-requires-2-clause-under_way : goal.take_turn-requires-2-clause-under_way
take_turn-requires-2-clause-under_way g c κs within =
    let core = g.E.StepEngine.core c.args.engine.now in
    let jobs = c.args.jobs.now in
    let k = c.args.number - 1 in
    let number : c.args.number ≡ suc k = omega (arith, c.if-number-eq0.false) in
    let inside : k < length jobs = omega (arith, c.requires.listed, number) in
    let job = get_within jobs k inside in
    let u = c.requires.under.4 in
    mid_ready core jobs k job.0 job.1 (slice_index_or c.args.checks.now k c.index-checks-number.result) c.prepare.new.jobs c.prepare.new.check
    (was core jobs k job.0 job.1 (slice_index_or c.args.checks.now k c.index-checks-number.result) c.prepare.new.jobs c.prepare.new.check c.in_ok-prepare.ensures.ok) u.read u.under

pub take_turn-requires-2-clause-listed : goal.take_turn-requires-2-clause-listed
take_turn-requires-2-clause-listed g c κs within =
    let core = g.E.StepEngine.core c.args.engine.now in
    let jobs = c.args.jobs.now in
    let k = c.args.number - 1 in
    let number : c.args.number ≡ suc k = omega (arith, c.if-number-eq0.false) in
    let inside : k < length jobs = omega (arith, c.requires.listed, number) in
    let job = get_within jobs k inside in
    let count : length c.prepare.new.jobs ≡ length jobs =
    mid_count core jobs k job.0 job.1 (slice_index_or c.args.checks.now k c.index-checks-number.result) c.prepare.new.jobs c.prepare.new.check
    (was core jobs k job.0 job.1 (slice_index_or c.args.checks.now k c.index-checks-number.result) c.prepare.new.jobs c.prepare.new.check c.in_ok-prepare.ensures.ok) in
    omega (arith, c.requires.listed, count)

pub returns-clause-turns : goal.returns-clause-turns
returns-clause-turns g c =
    let core = g.E.StepEngine.core c.args.engine.now in
    let jobs = c.args.jobs.now in
    let checks = c.args.checks.now in
    let k = c.args.number - 1 in
    let number : c.args.number ≡ suc k = omega (arith, c.if-number-eq0.false) in
    let inside : k < length jobs = omega (arith, c.requires.listed, number) in
    let job = get_within jobs k inside in
    let check = slice_index_or c.args.checks.now k c.index-checks-number.result in
    let its : slice_get checks k ≡ Some check = slice_get-get_or checks k c.index-checks-number.result (omega (arith, inside, c.requires.count)) in
    ok_both c.take_turn-2.result _ _ c.take_turn-2.ensures.turns c.take_turn-2.ensures.goes (λ ended turns goes.
    takes core jobs k job.0 job.1 check c.prepare.new.jobs c.prepare.new.check checks its (was core jobs k job.0 job.1 check c.prepare.new.jobs c.prepare.new.check c.in_ok-prepare.ensures.ok)
    c.args.number number ended _ c.take_turn-2.new.jobs turns goes)

pub returns-clause-goes : goal.returns-clause-goes
returns-clause-goes g c =
    let core = g.E.StepEngine.core c.args.engine.now in
    let jobs = c.args.jobs.now in
    let k = c.args.number - 1 in
    let number : c.args.number ≡ suc k = omega (arith, c.if-number-eq0.false) in
    let inside : k < length jobs = omega (arith, c.requires.listed, number) in
    let job = get_within jobs k inside in
    let check = slice_index_or c.args.checks.now k c.index-checks-number.result in
    on_ok_weaker c.take_turn-2.result
    (mid_goes core jobs k job.0 job.1 check c.prepare.new.jobs c.prepare.new.check (was core jobs k job.0 job.1 check c.prepare.new.jobs c.prepare.new.check c.in_ok-prepare.ensures.ok) c.args.number number c.take_turn-2.new.jobs)
    c.take_turn-2.ensures.goes
