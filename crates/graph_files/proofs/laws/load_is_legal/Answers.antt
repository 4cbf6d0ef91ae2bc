use Rattle.graphalytics_io.specs.Load.{load_of}
use Rattle.graph_files.proofs.LoadLemmas.{load_allowed, load_within, load_legal}
use Rattle.graph_files.proofs.laws.load_is_legal.Goals as goal

pub returns-clause-allowed : goal.returns-clause-allowed
returns-clause-allowed c = load_allowed

pub returns-clause-within : goal.returns-clause-within
returns-clause-within c = load_within

pub returns-clause-legal : goal.returns-clause-legal
returns-clause-legal c = λ kind ids edges loadable. load_legal kind (load_of ids edges) (load_allowed kind ids edges loadable) (load_within kind ids edges loadable)
