use Rattle.graph_model.proofs.WriteLemmas.{commute, still_allowed}
use Rattle.graph_model.proofs.ClashLemmas.{clash-symm}
use Rattle.graph_model.proofs.HistoryLemmas.{commute_all, behind_all}
use Rattle.graph_model.proofs.laws.apart_writes_commute.Goals as goal

pub returns-clause-commute : goal.returns-clause-commute
returns-clause-commute c = λ kind g x y apart. commute kind x y apart g

pub returns-clause-allowed : goal.returns-clause-allowed
returns-clause-allowed c = still_allowed

pub returns-clause-symmetric : goal.returns-clause-symmetric
returns-clause-symmetric c = clash-symm

pub returns-clause-lists : goal.returns-clause-lists
returns-clause-lists c = λ kind g xs ys apart. commute_all kind xs ys g apart

pub returns-clause-all_allowed : goal.returns-clause-all_allowed
returns-clause-all_allowed c = λ kind g xs ys apart all_x all_y. behind_all kind g xs ys all_x apart all_y
