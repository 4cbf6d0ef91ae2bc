use Rattle.std.proofs.Common.{◌≡◌, ◌∙◌, ◌+◌, ◌-◌, ◌<◌, ◌≤◌, suc, true, false, length, refl, sym, subst, arith, slice_index_or}
use Rattle.std.proofs.lemmas.Option.{slice_get-get_or}
use Rattle.job_runner.specs.Runs.{Turns, Goes, under_way}
use Rattle.job_runner.proofs.RunLemmas.{IsAt, at_first, at_next, at_end, scheduled, behind_schedule}
use Rattle.job_runner.proofs.RotationLemmas.{measure, falls, rotates_on, next_zero, next_one, left_after}
use Rattle.run_keeper.proofs.KeptLemmas.{kept_on, on_err}
use Rattle.run_keeper.proofs.StopLemmas.{stops_in_turn}
use Rattle.run_keeper.proofs.run.take_turns.Goals as goal
use Rattle.run_keeper.proofs.run.take_turns.Goals.{then-branch, else-branch, then-branch-2, else-branch-2}

pub schedule-init : goal.schedule-init
schedule-init g c = record {
  at = λ inputs are. at_first inputs c.args.schedule.now (g.E.StepEngine.core c.args.engine.now) c.args.jobs.now are;
  left = c.under_way-left.ensures;
  count = sym c.len-count.ensures;
  listed = c.len-count.ensures;
  kind = refl;
  kept = λ kept. kept;
  faults = refl;
}

pub returns-then-left-eq0-clause-ends : goal.returns-then-left-eq0-clause-ends
returns-then-left-eq0-clause-ends g c = λ inputs are.
    at_end inputs c.args.schedule.now (g.E.StepEngine.core c.args.engine.now) c.schedule.job-index (g.E.StepEngine.core c.schedule.engine) c.schedule.jobs (c.schedule.invariant.at inputs are) (sym c.schedule.invariant.left ∙ c.if-left-eq0.true)

pub take_kept_turn-requires-clause-listed : goal.take_kept_turn-requires-clause-listed
take_kept_turn-requires-clause-listed g c =
    let schedule = c.args.schedule.now in
    let inside : c.schedule.job-index < length schedule = omega arith in
    let le : slice_index_or schedule c.schedule.job-index 0 ≤ length c.args.jobs.now = c.requires.listed c.schedule.job-index (slice_index_or schedule c.schedule.job-index 0) (slice_get-get_or schedule c.schedule.job-index 0 inside) in
    omega (arith, le, c.schedule.invariant.listed, c.schedule.invariant.count)

pub schedule-preserved : goal.schedule-preserved
schedule-preserved g c =
    let first = g.E.StepEngine.core c.args.engine.now in
    let core = g.E.StepEngine.core c.schedule.engine in
    let new = g.E.StepEngine.core c.take_kept_turn.new.engine in
    let schedule = c.args.schedule.now in
    let i = c.schedule.job-index in
    let number = slice_index_or schedule i 0 in
    let next = c.take_kept_turn.new.jobs in
    let ended = c.in_ok-take_kept_turn.field-0 in
    let inside : i < length schedule = omega arith in
    let turns : Turns core c.schedule.jobs number ended new next = c.in_ok-take_kept_turn.ensures.turns in
    let goes : Goes c.schedule.jobs number next = c.in_ok-take_kept_turn.ensures.goes in
    let left : c.schedule.left ≡ under_way c.schedule.jobs = c.schedule.invariant.left in
    let some : 0 < under_way c.schedule.jobs = omega (arith, left, c.if-left-eq0.false) in
    let place : suc i ≡ i + 1 = omega arith in
    record {
      at = λ inputs are. subst (λ n. IsAt inputs schedule first n new next) place
          (at_next inputs schedule first i core c.schedule.jobs (c.schedule.invariant.at inputs are) number (scheduled (length inputs.scripts) schedule i number (slice_get-get_or schedule i 0 inside)) some ended new next turns);
      left = left_after ended c.schedule.left c.if-branch.left (under_way c.schedule.jobs) (under_way next) left turns.left
          (elim c.if-branch.branch as (λ _. ended ≡ true → c.if-branch.left ≡ c.schedule.left - 1) [
            | then-branch w ↦ λ _. w.left-is
            | else-branch w ↦ λ e. absurd (let other : true ≡ false = sym e ∙ w.if-branch.false in cc)
          ])
          (elim c.if-branch.branch as (λ _. ended ≡ false → c.if-branch.left ≡ c.schedule.left) [
            | then-branch w ↦ λ e. absurd (let other : true ≡ false = sym w.if-branch.true ∙ e in cc)
            | else-branch w ↦ λ _. w.left-is
          ]);
      count = goes.count ∙ c.schedule.invariant.count;
      listed = c.schedule.invariant.listed;
      kind = turns.kind ∙ c.schedule.invariant.kind;
      kept = λ kept. kept_on g.K.Disk.moment g.K.Disk.may_leave g.K.Disk.left_since g.K.Disk.state core.kind first.kind c.schedule.invariant.kind core.journal new.journal c.schedule.keeper.file c.take_kept_turn.new.keeper.file
          c.schedule.disk c.take_kept_turn.new.disk c.in_ok-take_kept_turn.ensures.kept (c.schedule.invariant.kept kept);
      faults = c.in_ok-take_kept_turn.ensures.ok ∙ c.schedule.invariant.faults;
    }

pub rotation-preserved-then-job-count : goal.rotation-preserved-then-job-count
rotation-preserved-then-job-count g c =
    let first = g.E.StepEngine.core c.args.engine.now in
    let core = g.E.StepEngine.core c.rotation.engine in
    let new = g.E.StepEngine.core c.take_kept_turn-in-rotation.new.engine in
    let schedule = c.args.schedule.now in
    let next = c.take_kept_turn-in-rotation.new.jobs in
    let ended = c.in_ok-take_kept_turn-2.field-0 in
    let turns : Turns core c.rotation.jobs c.rotation.job ended new next = c.in_ok-take_kept_turn-2.ensures.turns in
    let goes : Goes c.rotation.jobs c.rotation.job next = c.in_ok-take_kept_turn-2.ensures.goes in
    let left : c.rotation.left ≡ under_way c.rotation.jobs = c.rotation.invariant.left in
    let some : 0 < under_way c.rotation.jobs = omega (arith, left, c.rotation-test.true) in
    record {
      at = λ inputs are.
          let a = c.rotation.invariant.at inputs are in
          let scripts : length inputs.scripts ≡ c.len-count.result = sym ((a.1).state.count) ∙ c.rotation.invariant.count in
          let number : suc (length schedule + a.0) ≡ length schedule + suc a.0 = omega arith in (
            suc a.0,
            subst (λ n. IsAt inputs schedule first n new next) number
                (at_next inputs schedule first (length schedule + a.0) core c.rotation.jobs a.1 c.rotation.job (behind_schedule (length inputs.scripts) schedule (length schedule + a.0) a.0 refl ∙ sym a.2) some ended new next turns),
            sym (next_zero (length inputs.scripts) c.rotation.job (c.if-job-count.true ∙ sym scripts)) ∙ rotates_on (length inputs.scripts) a.0 c.rotation.job a.2,
          );
      left = left_after ended c.rotation.left c.if-branch-2.left (under_way c.rotation.jobs) (under_way next) left turns.left
          (elim c.if-branch-2.branch as (λ _. ended ≡ true → c.if-branch-2.left ≡ c.rotation.left - 1) [
            | then-branch-2 w ↦ λ _. w.left-is
            | else-branch-2 w ↦ λ e. absurd (let other : true ≡ false = sym e ∙ w.if-branch-2.false in cc)
          ])
          (elim c.if-branch-2.branch as (λ _. ended ≡ false → c.if-branch-2.left ≡ c.rotation.left) [
            | then-branch-2 w ↦ λ e. absurd (let other : true ≡ false = sym w.if-branch-2.true ∙ e in cc)
            | else-branch-2 w ↦ λ _. w.left-is
          ]);
      count = goes.count ∙ c.rotation.invariant.count;
      listed = λ _. omega arith;
      kind = turns.kind ∙ c.rotation.invariant.kind;
      kept = λ kept. kept_on g.K.Disk.moment g.K.Disk.may_leave g.K.Disk.left_since g.K.Disk.state core.kind first.kind c.rotation.invariant.kind core.journal new.journal c.rotation.keeper.file c.take_kept_turn-in-rotation.new.keeper.file
          c.rotation.disk c.take_kept_turn-in-rotation.new.disk c.in_ok-take_kept_turn-2.ensures.kept (c.rotation.invariant.kept kept);
      faults = c.in_ok-take_kept_turn-2.ensures.ok ∙ c.rotation.invariant.faults;
    }

pub rotation-preserved : goal.rotation-preserved
rotation-preserved g c =
    let first = g.E.StepEngine.core c.args.engine.now in
    let core = g.E.StepEngine.core c.rotation.engine in
    let new = g.E.StepEngine.core c.take_kept_turn-in-rotation.new.engine in
    let schedule = c.args.schedule.now in
    let next = c.take_kept_turn-in-rotation.new.jobs in
    let ended = c.in_ok-take_kept_turn-2.field-0 in
    let turns : Turns core c.rotation.jobs c.rotation.job ended new next = c.in_ok-take_kept_turn-2.ensures.turns in
    let goes : Goes c.rotation.jobs c.rotation.job next = c.in_ok-take_kept_turn-2.ensures.goes in
    let left : c.rotation.left ≡ under_way c.rotation.jobs = c.rotation.invariant.left in
    let some : 0 < under_way c.rotation.jobs = omega (arith, left, c.rotation-test.true) in
    record {
      at = λ inputs are.
          let a = c.rotation.invariant.at inputs are in
          let scripts : length inputs.scripts ≡ c.len-count.result = sym ((a.1).state.count) ∙ c.rotation.invariant.count in
          let number : suc (length schedule + a.0) ≡ length schedule + suc a.0 = omega arith in (
            suc a.0,
            subst (λ n. IsAt inputs schedule first n new next) number
                (at_next inputs schedule first (length schedule + a.0) core c.rotation.jobs a.1 c.rotation.job (behind_schedule (length inputs.scripts) schedule (length schedule + a.0) a.0 refl ∙ sym a.2) some ended new next turns),
            sym (next_one (length inputs.scripts) c.rotation.job (λ e. c.if-job-count.false (e ∙ scripts))) ∙ rotates_on (length inputs.scripts) a.0 c.rotation.job a.2,
          );
      left = left_after ended c.rotation.left c.if-branch-2.left (under_way c.rotation.jobs) (under_way next) left turns.left
          (elim c.if-branch-2.branch as (λ _. ended ≡ true → c.if-branch-2.left ≡ c.rotation.left - 1) [
            | then-branch-2 w ↦ λ _. w.left-is
            | else-branch-2 w ↦ λ e. absurd (let other : true ≡ false = sym e ∙ w.if-branch-2.false in cc)
          ])
          (elim c.if-branch-2.branch as (λ _. ended ≡ false → c.if-branch-2.left ≡ c.rotation.left) [
            | then-branch-2 w ↦ λ e. absurd (let other : true ≡ false = sym w.if-branch-2.true ∙ e in cc)
            | else-branch-2 w ↦ λ _. w.left-is
          ]);
      count = goes.count ∙ c.rotation.invariant.count;
      listed = λ _. let le : c.rotation.job ≤ c.len-count.result = c.rotation.invariant.listed c.rotation-test.true in let other : c.rotation.job ≡ c.len-count.result → ⊥ = c.if-job-count.false in omega (arith, le, other);
      kind = turns.kind ∙ c.rotation.invariant.kind;
      kept = λ kept. kept_on g.K.Disk.moment g.K.Disk.may_leave g.K.Disk.left_since g.K.Disk.state core.kind first.kind c.rotation.invariant.kind core.journal new.journal c.rotation.keeper.file c.take_kept_turn-in-rotation.new.keeper.file
          c.rotation.disk c.take_kept_turn-in-rotation.new.disk c.in_ok-take_kept_turn-2.ensures.kept (c.rotation.invariant.kept kept);
      faults = c.in_ok-take_kept_turn-2.ensures.ok ∙ c.rotation.invariant.faults;
    }

pub rotation-smaller-then-job-count : goal.rotation-smaller-then-job-count
rotation-smaller-then-job-count g c =
    let next = c.take_kept_turn-in-rotation.new.jobs in
    let goes : Goes c.rotation.jobs c.rotation.job next = c.in_ok-take_kept_turn-2.ensures.goes in
    let left : c.rotation.left ≡ under_way c.rotation.jobs = c.rotation.invariant.left in
    let some : 0 < under_way c.rotation.jobs = omega (arith, left, c.rotation-test.true) in
    let le : c.rotation.job ≤ length c.rotation.jobs = omega (arith, c.rotation.invariant.listed c.rotation-test.true, c.rotation.invariant.count) in
    subst (λ n. measure next n < measure c.rotation.jobs c.rotation.job) (next_zero (length c.rotation.jobs) c.rotation.job (c.if-job-count.true ∙ sym c.rotation.invariant.count)) (falls c.rotation.jobs next c.rotation.job le some goes)

pub rotation-smaller : goal.rotation-smaller
rotation-smaller g c =
    let next = c.take_kept_turn-in-rotation.new.jobs in
    let goes : Goes c.rotation.jobs c.rotation.job next = c.in_ok-take_kept_turn-2.ensures.goes in
    let left : c.rotation.left ≡ under_way c.rotation.jobs = c.rotation.invariant.left in
    let some : 0 < under_way c.rotation.jobs = omega (arith, left, c.rotation-test.true) in
    let le : c.rotation.job ≤ length c.rotation.jobs = omega (arith, c.rotation.invariant.listed c.rotation-test.true, c.rotation.invariant.count) in
    subst (λ n. measure next n < measure c.rotation.jobs c.rotation.job) (next_one (length c.rotation.jobs) c.rotation.job (λ e. c.if-job-count.false (e ∙ c.rotation.invariant.count))) (falls c.rotation.jobs next c.rotation.job le some goes)

pub returns-clause-ends : goal.returns-clause-ends
returns-clause-ends g c = λ inputs are.
    let a = c.rotation.invariant.at inputs are in
    at_end inputs c.args.schedule.now (g.E.StepEngine.core c.args.engine.now) (length c.args.schedule.now + a.0) (g.E.StepEngine.core c.rotation.engine) c.rotation.jobs a.1 (sym c.rotation.invariant.left ∙ omega arith)

pub returns-in_err-take_kept_turn-clause-still : goal.returns-in_err-take_kept_turn-clause-still
returns-in_err-take_kept_turn-clause-still g c =
    let first = g.E.StepEngine.core c.args.engine.now in
    let core = g.E.StepEngine.core c.schedule.engine in
    let new = g.E.StepEngine.core c.take_kept_turn.new.engine in
    let schedule = c.args.schedule.now in
    let i = c.schedule.job-index in
    let number = slice_index_or schedule i 0 in
    let inside : i < length schedule = omega arith in
    let left : c.schedule.left ≡ under_way c.schedule.jobs = c.schedule.invariant.left in
    let some : 0 < under_way c.schedule.jobs = omega (arith, left, c.if-left-eq0.false) in
    on_err _ (stops_in_turn g.K.Disk.moment g.K.Disk.may_leave g.K.Disk.left_since g.K.Disk.state schedule first c.args.jobs.now core c.schedule.jobs number new c.take_kept_turn.new.jobs c.take_kept_turn.new.keeper.file.count
    c.args.keeper.now.file c.schedule.keeper.file c.args.disk.now c.schedule.disk c.take_kept_turn.new.disk c.schedule.invariant.kind some
    (λ inputs are. (i, c.schedule.invariant.at inputs are, scheduled (length inputs.scripts) schedule i number (slice_get-get_or schedule i 0 inside)))
    c.schedule.invariant.kept c.in_err-take_kept_turn.ensures.still)

pub returns-in_err-take_kept_turn-2-clause-still : goal.returns-in_err-take_kept_turn-2-clause-still
returns-in_err-take_kept_turn-2-clause-still g c =
    let first = g.E.StepEngine.core c.args.engine.now in
    let core = g.E.StepEngine.core c.rotation.engine in
    let new = g.E.StepEngine.core c.take_kept_turn-in-rotation.new.engine in
    let schedule = c.args.schedule.now in
    let left : c.rotation.left ≡ under_way c.rotation.jobs = c.rotation.invariant.left in
    let some : 0 < under_way c.rotation.jobs = omega (arith, left, c.rotation-test.true) in
    on_err _ (stops_in_turn g.K.Disk.moment g.K.Disk.may_leave g.K.Disk.left_since g.K.Disk.state schedule first c.args.jobs.now core c.rotation.jobs c.rotation.job new c.take_kept_turn-in-rotation.new.jobs
    c.take_kept_turn-in-rotation.new.keeper.file.count c.args.keeper.now.file c.rotation.keeper.file c.args.disk.now c.rotation.disk c.take_kept_turn-in-rotation.new.disk c.rotation.invariant.kind some
    (λ inputs are. let a = c.rotation.invariant.at inputs are in (length schedule + a.0, a.1, behind_schedule (length inputs.scripts) schedule (length schedule + a.0) a.0 refl ∙ sym a.2))
    c.rotation.invariant.kept c.in_err-take_kept_turn-2.ensures.still)
