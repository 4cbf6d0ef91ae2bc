use Rattle.std.specs.Prelude.{true}
use Rattle.cases_engine.proofs.OpenLemmas.{committed_in, open_in, within}
use Rattle.cases_engine.proofs.transactions.commit_in.Goals as goal

pub select-requires : goal.select-requires
select-requires g c = within (g.E.StepEngine.core c.args.engine.now) c.args.pass true c.requires

pub commit-requires : goal.commit-requires
commit-requires g c = open_in _ (g.E.StepEngine.core c.args.engine.now) _ c.args.pass (g.met.E.StepEngine.accounts c.select.new.self) c.select.ensures c.requires

pub returns : goal.returns
returns g c = committed_in _ _ _ c.args.pass _ c.select.ensures (g.met.E.StepEngine.commits_here _ _ _ c.commit.ensures)
