use Rattle.store_model.proofs.ToldLemmas.{read_agrees, prune_agrees, told_all}
use Rattle.store_model.proofs.laws.tellers_agree.Goals as goal

pub returns-clause-read : goal.returns-clause-read
returns-clause-read c = read_agrees

pub returns-clause-prune : goal.returns-clause-prune
returns-clause-prune c = prune_agrees

pub returns-clause-all : goal.returns-clause-all
returns-clause-all c = told_all
