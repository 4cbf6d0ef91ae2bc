use Rattle.std.proofs.Common.{ap, ◌∙◌, arith}
use Rattle.graph_model.specs.Account.{Account}
use Rattle.thread_runner.proofs.ListLemmas.{lent_closed}
use Rattle.thread_runner.proofs.driver.run_threads.Goals as goal

pub returns-then-run_beside-clause-closed : goal.returns-then-run_beside-clause-closed
returns-then-run_beside-clause-closed g c = λ closed. record {
  scripts = lent_closed g.E.Engine.account _ _ _ _ c.as_mut_slice-seats.ensures.value (omega (arith, c.args.jobs.now.jobs.ok)) c.run_beside.ensures.ran closed.scripts;
  service_is = ap (λ (a : Account). a.start) c.run_beside.ensures.service.others ∙ closed.service_is;
}

pub returns-else-run_beside-clause-closed : goal.returns-else-run_beside-clause-closed
returns-else-run_beside-clause-closed g c = λ closed. record {
  scripts = lent_closed g.E.Engine.account _ _ _ _ c.as_mut_slice-seats.ensures.value (omega (arith, c.args.jobs.now.jobs.ok)) c.run_beside.ensures.ran closed.scripts;
  service_is = ap (λ (a : Account). a.start) c.run_beside.ensures.service.others ∙ closed.service_is;
}
