use Rattle.std.proofs.Common.{sym, subst}
use Rattle.serial_runner.specs.SerialRuns.{SerialEnds}
use Rattle.serial_runner.proofs.EndLemmas.{at_first, at_end, checks_count, lines_within}
use Rattle.serial_runner.proofs.run.run_with.Goals as goal

pub take_turns-requires-clause-under : goal.take_turns-requires-clause-under
take_turns-requires-clause-under g c κs within =
    let given = c.requires.new in
    (given.0, at_first given.0 c.args.schedule.now (g.E.StepEngine.core c.args.engine.now) c.args.jobs.now c.args.checks.now given.1 c.requires.count c.requires.fresh)

pub answer_refused-requires-clause-count : goal.answer_refused-requires-clause-count
answer_refused-requires-clause-count g c =
    let given = c.requires.new in
    let first = g.E.StepEngine.core c.args.engine.now in
    let a = c.in_ok-take_turns.ensures.ends given.0 (at_first given.0 c.args.schedule.now first c.args.jobs.now c.args.checks.now given.1 c.requires.count c.requires.fresh) in
    checks_count given.0 c.args.schedule.now first a.0 (g.E.StepEngine.core c.take_turns.new.engine) c.take_turns.new.jobs c.take_turns.new.checks a.1

pub answer_refused-requires-clause-lines : goal.answer_refused-requires-clause-lines
answer_refused-requires-clause-lines g c =
    let given = c.requires.new in
    let first = g.E.StepEngine.core c.args.engine.now in
    let a = c.in_ok-take_turns.ensures.ends given.0 (at_first given.0 c.args.schedule.now first c.args.jobs.now c.args.checks.now given.1 c.requires.count c.requires.fresh) in
    lines_within given.0 c.args.schedule.now first a.0 (g.E.StepEngine.core c.take_turns.new.engine) c.take_turns.new.jobs c.take_turns.new.checks a.1

pub returns-clause-ends : goal.returns-clause-ends
returns-clause-ends g c = λ inputs new.
    let first = g.E.StepEngine.core c.args.engine.now in
    let core = g.E.StepEngine.core c.take_turns.new.engine in
    let a = c.in_ok-take_turns.ensures.ends inputs (at_first inputs c.args.schedule.now first c.args.jobs.now c.args.checks.now new c.requires.count c.requires.fresh) in
    subst (λ js. SerialEnds inputs c.args.schedule.now first core js) (sym c.answer_refused.ensures)
    (at_end inputs c.args.schedule.now first a.0 core c.take_turns.new.jobs c.take_turns.new.checks a.1 new.given a.2)
