use Rattle.store_words.proofs.NoteLemmas.{right_cell}
use Rattle.store_words.specs.Notes.{without_cell}
use Rattle.store_words.proofs.accounts.Accounts.note_cell.Given as given

abbrev pub ghosts-cut_as : given.ghosts-cut_as
ghosts-cut_as a = record { left = λ v. without_cell a._about.now v; right = λ v. right_cell a._about.now v }
