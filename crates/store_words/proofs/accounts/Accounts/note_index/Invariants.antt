use Rattle.store_words.proofs.NoteLemmas.{right_index}
use Rattle.store_words.specs.Notes.{without_index}
use Rattle.store_words.proofs.accounts.Accounts.note_index.Given as given

abbrev pub ghosts-cut_as : given.ghosts-cut_as
ghosts-cut_as a = record { left = λ v. without_index v; right = λ v. right_index v }
