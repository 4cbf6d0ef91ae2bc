use Rattle.journal_file.proofs.FileLemmas.{stands}
use Rattle.journal_file.proofs.laws.files_stand_for_their_commits.Goals as goal

pub returns : goal.returns
returns c = stands
