use Rattle.std.proofs.Common.{[], ◌∷◌}
use Rattle.graph_model.proofs.LegalLemmas.{legal_prefix}
use Rattle.graph_model.proofs.SerialLemmas.{no_commit_legal, legal_more, legal_last}
use Rattle.graph_model.proofs.laws.journals_grow_by_commits.Goals as goal

pub returns-clause-none : goal.returns-clause-none
returns-clause-none c = no_commit_legal

pub returns-clause-more : goal.returns-clause-more
returns-clause-more c = λ kind journal commit. (
  λ legal. (legal_prefix kind journal (commit ∷ []) legal, legal_last kind journal commit legal),
  λ both. legal_more kind journal commit both.0 both.1,
)
