use Rattle.store_words.proofs.NoteLemmas.{right_journal}
use Rattle.store_words.specs.Notes.{without_journal}
use Rattle.store_words.proofs.accounts.Accounts.note_journal.Given as given

abbrev pub ghosts-cut_as : given.ghosts-cut_as
ghosts-cut_as a = record { left = λ v. without_journal v; right = λ v. right_journal v }
