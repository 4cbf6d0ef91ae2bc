use Rattle.std.proofs.Common.{◌≡◌, ◌∙◌, ◌<◌, suc, length, refl, sym, ap, subst, arith, slice_index_or}
use Rattle.std.specs.Prelude.{ℕ, Some, None, IsSome, slice_get, slice_set}
use Rattle.line_runner.specs.declared.phase.Phase.TheVariants.{GivenUp}
use Rattle.std.proofs.lemmas.Option.{slice_get_read}
use Rattle.graph_model.specs.Account.{Account}
use Rattle.graph_model.specs.OwnerCalls.{pass_at, current}
use Rattle.line_runner.specs.Lines.{given_up}
use Rattle.job_runner.specs.Progress.{Progress}
use Rattle.job_runner.specs.Runs.{AreHeld, HoldsPhase}
use Rattle.job_runner.proofs.JobLemmas.{gives_up_on_core}
use Rattle.job_runner.proofs.TookLemmas.{gives_up_one, closed_more, all_closed}
use Rattle.job_runner.proofs.jobs.give_up_each.Goals as goal

pub select-requires : goal.select-requires
select-requires g c =
    let job = c.job-item.result in
    let there : slice_get c.jobs.jobs c.jobs.job-index ≡ Some job = slice_get_read c.jobs.jobs (length c.jobs.jobs) c.jobs.job-index job refl (omega arith) c.job-item.is in
    let number : c.number.result ≡ suc c.jobs.job-index = c.number.ensures ∙ ap (λ (x : Progress). x.number) (sym c.job-item.is) ∙ (c.jobs.invariant.held.each c.jobs.job-index job there).0 in
    omega (arith, number, c.jobs.invariant.held.passes)

pub give_up-requires : goal.give_up-requires
give_up-requires g c = λ is.
    let core = g.E.StepEngine.core c.jobs.engine in
    let job = c.job-item.result in
    let there : slice_get c.jobs.jobs c.jobs.job-index ≡ Some job = slice_get_read c.jobs.jobs (length c.jobs.jobs) c.jobs.job-index job refl (omega arith) c.job-item.is in
    let held = c.jobs.invariant.held.each c.jobs.job-index job there in
    let number : c.number.result ≡ suc c.jobs.job-index = c.number.ensures ∙ ap (λ (x : Progress). x.number) (sym c.job-item.is) ∙ held.0 in
    let opened : IsSome (pass_at core (suc c.jobs.job-index)).start = subst (λ p. HoldsPhase p (pass_at core (suc c.jobs.job-index)).start) (ap (λ (x : Progress). x.phase) c.job-item.is ∙ is) held.1 in
    let chosen : IsSome (current (g.E.StepEngine.core c.select.new.self)).start = subst (λ x. IsSome (current x).start) (sym c.select.ensures) (subst (λ n. IsSome (pass_at core n).start) (sym number) opened) in
    subst (λ (a : Account). IsSome a.start) (sym (g.met.E.StepEngine.accounts c.select.new.self)) chosen

pub jobs-preserved : goal.jobs-preserved
jobs-preserved g c =
    let core = g.E.StepEngine.core c.jobs.engine in
    let new = g.E.StepEngine.core c.give_up.new.engine in
    let i = c.jobs.job-index in
    let job = c.job-item.result in
    let inside : i < length c.jobs.jobs = omega arith in
    let there : slice_get c.jobs.jobs i ≡ Some job = slice_get_read c.jobs.jobs (length c.jobs.jobs) i job refl inside c.job-item.is in
    let held = c.jobs.invariant.held.each i job there in
    let number : c.number.result ≡ suc i = c.number.ensures ∙ ap (λ (x : Progress). x.number) (sym c.job-item.is) ∙ held.0 in
    let one = gives_up_one core c.jobs.jobs i job there c.jobs.invariant.held (omega (arith, inside, c.jobs.invariant.held.passes)) c.give_up.new.self (c.give_up.ensures.job ∙ ap (λ (x : Progress). record x { phase = GivenUp; reading = None; image = None }) (sym c.job-item.is)) in
    let up : given_up (record core { selected = suc i }) job.phase ≡ new =
    (λ t. given_up (record core { selected = sym number t }) (c.job-item.is t).phase) ∙ ap (λ x. given_up x (slice_index_or c.jobs.jobs i job).phase) (sym c.select.ensures) ∙ sym (gives_up_on_core _ g.E.StepEngine.core (g.met.E.StepEngine.aborts_here) (slice_index_or c.jobs.jobs i job).phase c.select.new.self c.give_up.new.engine c.give_up.ensures.did) in
    record {
      held = subst (λ x. AreHeld x (slice_set c.jobs.jobs i c.give_up.new.self)) up one.0;
      closed = closed_more core new i c.jobs.invariant.closed (subst (λ x. (pass_at x (suc i)).start ≡ None) up one.2) (subst (λ x. (p : ℕ) → (p ≡ suc i → ⊥) → pass_at x p ≡ pass_at core p) up one.3);
      journal = ap (λ x. x.journal) (sym up) ∙ one.1 ∙ c.jobs.invariant.journal;
    }

pub returns-clause-closed : goal.returns-clause-closed
returns-clause-closed g c = all_closed (g.E.StepEngine.core c.jobs.engine) c.jobs.jobs c.jobs.job-index c.jobs.invariant.held (omega arith) c.jobs.invariant.closed
