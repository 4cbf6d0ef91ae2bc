use Rattle.graph_files.proofs.FileLemmas.{files_loadable, files_within}
use Rattle.graph_files.proofs.laws.files_are_loadable.Goals as goal

pub returns-clause-loadable : goal.returns-clause-loadable
returns-clause-loadable c = files_loadable

pub returns-clause-within : goal.returns-clause-within
returns-clause-within c = files_within
