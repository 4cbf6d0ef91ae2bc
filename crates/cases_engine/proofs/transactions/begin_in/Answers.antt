use Rattle.std.specs.Prelude.{false}
use Rattle.cases_engine.proofs.OpenLemmas.{begun_in, closed_in, within}
use Rattle.cases_engine.proofs.transactions.begin_in.Goals as goal

pub select-requires : goal.select-requires
select-requires g c = within (g.E.StepEngine.core c.args.engine.now) c.args.pass false c.requires

pub begin-requires : goal.begin-requires
begin-requires g c = closed_in _ (g.E.StepEngine.core c.args.engine.now) _ c.args.pass (g.met.E.StepEngine.accounts c.select.new.self) c.select.ensures c.requires

pub returns-clause-sets : goal.returns-clause-sets
returns-clause-sets g c = begun_in _ _ _ c.args.pass _ c.select.ensures (g.met.E.StepEngine.begins_here _ _ _ c.in_ok-begun.ensures)
