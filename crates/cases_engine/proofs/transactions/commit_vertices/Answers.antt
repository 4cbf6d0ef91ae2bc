use Rattle.std.proofs.Common.{sym, ◌∙◌, ap, refl}
use Rattle.graph_model.specs.Account.{Account}
use Rattle.cases_engine.proofs.OpenLemmas.{begun_in, committed_in, open_begun, open_still, transaction}
use Rattle.cases_engine.proofs.transactions.commit_vertices.Goals as goal

pub commit-requires : goal.commit-requires
commit-requires g c =
    open_still _ _ _ _ (g.met.E.StepEngine.accounts c.begin.new.self) (g.met.E.StepEngine.accounts c.add_vertices.new.engine) c.in_ok-add_vertices.ensures (open_begun _ _ _ (g.met.E.Engine.begins _ _ _ c.in_ok-begin.ensures).0)

pub returns-clause-open : goal.returns-clause-open
returns-clause-open g c =
    transaction (g.E.StepEngine.core c.args.engine.now) (g.E.StepEngine.core c.begin.new.self) (g.E.StepEngine.core c.add_vertices.new.engine) (g.E.StepEngine.core c.commit.new.self)
    (sym (ap (λ (a : Account). a.start) (g.met.E.StepEngine.accounts c.args.engine.now)) ∙ c.requires.closed)
    (begun_in _ _ _ _ _ refl (g.met.E.StepEngine.begins_here _ _ _ c.in_ok-begin.ensures))
    c.in_ok-add_vertices.ensures
    (committed_in _ _ _ _ _ refl (g.met.E.StepEngine.commits_here _ _ _ c.commit.ensures))
