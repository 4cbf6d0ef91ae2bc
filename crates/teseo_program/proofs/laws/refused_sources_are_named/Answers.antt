use Rattle.teseo_program.proofs.NamedLemmas.{faulty_named, long_named}
use Rattle.teseo_program.proofs.laws.refused_sources_are_named.Goals as goal

pub returns-clause-faulty : goal.returns-clause-faulty
returns-clause-faulty c = faulty_named

pub returns-clause-long : goal.returns-clause-long
returns-clause-long c = long_named
