use Rattle.std.proofs.Common.{◌≡◌, ◌∙◌, ◌-◌, ◌<◌, suc, true, false, length, refl, sym, ap, subst, arith, slice_index_or}
use Rattle.std.specs.Prelude.{Some, slice_get, slice_set, IfOk, OnOk, OnErr}
use Rattle.std.proofs.lemmas.Option.{slice_get_read}
use Rattle.job_runner.specs.Progress.{is_over}
use Rattle.job_runner.specs.Runs.{Turns, Goes, IsStuck}
use Rattle.job_runner.proofs.TookLemmas.{was_over, stays_over, ready_here, Says, took_turns, took_goes, took_stuck}
use Rattle.job_runner.proofs.jobs.Jobs.take_turn.Goals as goal
use Rattle.job_runner.proofs.jobs.Jobs.take_turn.Goals.{in-More, in-Ended, in-NoMemory}

pub returns-then-has_ended-clause-turns : goal.returns-then-has_ended-clause-turns
returns-then-has_ended-clause-turns g c =
    let core = g.E.StepEngine.core c.args.engine.now in
    let jobs = c.args.self.now in
    let k = c.args.number - 1 in
    let job = c.index_mut-job.result.now in
    let fields : c.self.inside.jobs.items ≡ jobs = c.self.view_is in
    let number : c.args.number ≡ suc k = omega (arith, c.requires.numbered) in
    let listed : k < length jobs = omega (arith, c.requires.listed, number) in
    let there : slice_get jobs k ≡ Some job = slice_get_read jobs (length jobs) k job refl listed (c.index_mut-job.ensures.value ∙ ap (λ xs. slice_index_or xs k job) fields) in
    let over : is_over job ≡ true = sym c.has_ended.ensures ∙ c.if-has_ended.true in
    subst (λ xs. Turns core jobs c.args.number false core (slice_set xs k job)) (sym fields) (was_over core jobs k job there c.args.number number c.requires.under_way.0 c.requires.under_way.1 over)

pub returns-then-has_ended-clause-goes : goal.returns-then-has_ended-clause-goes
returns-then-has_ended-clause-goes g c =
    let core = g.E.StepEngine.core c.args.engine.now in
    let jobs = c.args.self.now in
    let k = c.args.number - 1 in
    let job = c.index_mut-job.result.now in
    let fields : c.self.inside.jobs.items ≡ jobs = c.self.view_is in
    let number : c.args.number ≡ suc k = omega (arith, c.requires.numbered) in
    let listed : k < length jobs = omega (arith, c.requires.listed, number) in
    let there : slice_get jobs k ≡ Some job = slice_get_read jobs (length jobs) k job refl listed (c.index_mut-job.ensures.value ∙ ap (λ xs. slice_index_or xs k job) fields) in
    let over : is_over job ≡ true = sym c.has_ended.ensures ∙ c.if-has_ended.true in
    subst (λ xs. Goes jobs c.args.number (slice_set xs k job)) (sym fields) (stays_over core jobs k job there c.args.number number over)

pub turn_alone-requires-clause-ready : goal.turn_alone-requires-clause-ready
turn_alone-requires-clause-ready g c κs within =
    let core = g.E.StepEngine.core c.args.engine.now in
    let jobs = c.args.self.now in
    let k = c.args.number - 1 in
    let job = c.index_mut-job.result.now in
    let fields : c.self.inside.jobs.items ≡ jobs = c.self.view_is in
    let number : c.args.number ≡ suc k = omega (arith, c.requires.numbered) in
    let listed : k < length jobs = omega (arith, c.requires.listed, number) in
    let there : slice_get jobs k ≡ Some job = slice_get_read jobs (length jobs) k job refl listed (c.index_mut-job.ensures.value ∙ ap (λ xs. slice_index_or xs k job) fields) in
    ready_here core jobs k job there c.args.number number c.requires.under_way.0 c.requires.under_way.1 (g.E.StepEngine.core c.select.new.self) c.select.ensures

pub returns-clause-turns : goal.returns-clause-turns
returns-clause-turns g c =
    let core = g.E.StepEngine.core c.args.engine.now in
    let jobs = c.args.self.now in
    let k = c.args.number - 1 in
    let job = c.index_mut-job.result.now in
    let fields : c.self.inside.jobs.items ≡ jobs = c.self.view_is in
    let number : c.args.number ≡ suc k = omega (arith, c.requires.numbered) in
    let listed : k < length jobs = omega (arith, c.requires.listed, number) in
    let there : slice_get jobs k ≡ Some job = slice_get_read jobs (length jobs) k job refl listed (c.index_mut-job.ensures.value ∙ ap (λ xs. slice_index_or xs k job) fields) in
    let inputs = c.requires.under_way.0 in
    let u = c.requires.under_way.1 in
    let selected = g.E.StepEngine.core c.select.new.self in
    let new = g.E.StepEngine.core c.turn_alone.new.engine in
    let next = c.turn_alone.new.self in
    let going : is_over job ≡ false = sym c.has_ended.ensures ∙ c.if-has_ended.false in
    let SaysHere = Says core jobs k job there c.args.number number inputs u selected c.select.ensures going new next in
    let says : SaysHere c.turn_alone.result c.match-turn_alone.result = elim c.match-turn_alone.branch [
      | in-More w ↦ subst (λ t. SaysHere t c.match-turn_alone.result) (sym w.in-More.is) w.result-is
      | in-Ended w ↦ subst (λ t. SaysHere t c.match-turn_alone.result) (sym w.in-Ended.is) w.result-is
      | in-NoMemory w ↦ subst (λ t. SaysHere t c.match-turn_alone.result) (sym w.in-NoMemory.is) (subst (λ r. OnOk r ⊥) (sym w.result-is) tt)
    ] in
    subst (λ xs. IfOk c.match-turn_alone.result (λ ended. Turns core jobs c.args.number ended new (slice_set xs k next))) (sym fields) (took_turns core jobs k job there c.args.number number inputs u selected c.select.ensures going new next c.turn_alone.result c.turn_alone.ensures.took c.match-turn_alone.result says)

pub returns-clause-goes : goal.returns-clause-goes
returns-clause-goes g c =
    let core = g.E.StepEngine.core c.args.engine.now in
    let jobs = c.args.self.now in
    let k = c.args.number - 1 in
    let job = c.index_mut-job.result.now in
    let fields : c.self.inside.jobs.items ≡ jobs = c.self.view_is in
    let number : c.args.number ≡ suc k = omega (arith, c.requires.numbered) in
    let listed : k < length jobs = omega (arith, c.requires.listed, number) in
    let there : slice_get jobs k ≡ Some job = slice_get_read jobs (length jobs) k job refl listed (c.index_mut-job.ensures.value ∙ ap (λ xs. slice_index_or xs k job) fields) in
    let inputs = c.requires.under_way.0 in
    let u = c.requires.under_way.1 in
    let selected = g.E.StepEngine.core c.select.new.self in
    let new = g.E.StepEngine.core c.turn_alone.new.engine in
    let next = c.turn_alone.new.self in
    let going : is_over job ≡ false = sym c.has_ended.ensures ∙ c.if-has_ended.false in
    let SaysHere = Says core jobs k job there c.args.number number inputs u selected c.select.ensures going new next in
    let says : SaysHere c.turn_alone.result c.match-turn_alone.result = elim c.match-turn_alone.branch [
      | in-More w ↦ subst (λ t. SaysHere t c.match-turn_alone.result) (sym w.in-More.is) w.result-is
      | in-Ended w ↦ subst (λ t. SaysHere t c.match-turn_alone.result) (sym w.in-Ended.is) w.result-is
      | in-NoMemory w ↦ subst (λ t. SaysHere t c.match-turn_alone.result) (sym w.in-NoMemory.is) (subst (λ r. OnOk r ⊥) (sym w.result-is) tt)
    ] in
    subst (λ xs. OnOk c.match-turn_alone.result (Goes jobs c.args.number (slice_set xs k next))) (sym fields) (took_goes core jobs k job there c.args.number number inputs u selected c.select.ensures going new next c.turn_alone.result c.turn_alone.ensures.took c.match-turn_alone.result says)

pub returns-clause-err : goal.returns-clause-err
returns-clause-err g c =
    let core = g.E.StepEngine.core c.args.engine.now in
    let jobs = c.args.self.now in
    let k = c.args.number - 1 in
    let job = c.index_mut-job.result.now in
    let fields : c.self.inside.jobs.items ≡ jobs = c.self.view_is in
    let number : c.args.number ≡ suc k = omega (arith, c.requires.numbered) in
    let listed : k < length jobs = omega (arith, c.requires.listed, number) in
    let there : slice_get jobs k ≡ Some job = slice_get_read jobs (length jobs) k job refl listed (c.index_mut-job.ensures.value ∙ ap (λ xs. slice_index_or xs k job) fields) in
    let inputs = c.requires.under_way.0 in
    let u = c.requires.under_way.1 in
    let selected = g.E.StepEngine.core c.select.new.self in
    let new = g.E.StepEngine.core c.turn_alone.new.engine in
    let next = c.turn_alone.new.self in
    let going : is_over job ≡ false = sym c.has_ended.ensures ∙ c.if-has_ended.false in
    let SaysHere = Says core jobs k job there c.args.number number inputs u selected c.select.ensures going new next in
    let says : SaysHere c.turn_alone.result c.match-turn_alone.result = elim c.match-turn_alone.branch [
      | in-More w ↦ subst (λ t. SaysHere t c.match-turn_alone.result) (sym w.in-More.is) w.result-is
      | in-Ended w ↦ subst (λ t. SaysHere t c.match-turn_alone.result) (sym w.in-Ended.is) w.result-is
      | in-NoMemory w ↦ subst (λ t. SaysHere t c.match-turn_alone.result) (sym w.in-NoMemory.is) (subst (λ r. OnOk r ⊥) (sym w.result-is) tt)
    ] in
    subst (λ xs. OnErr c.match-turn_alone.result (IsStuck core new (slice_set xs k next))) (sym fields) (took_stuck core jobs k job there c.args.number number inputs u selected c.select.ensures going new next c.turn_alone.result c.turn_alone.ensures.took c.match-turn_alone.result says)
