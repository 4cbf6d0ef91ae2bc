use Rattle.store_words.proofs.NoteLemmas.{right_pass}
use Rattle.store_words.specs.Notes.{without_pass}
use Rattle.store_words.proofs.accounts.Accounts.note_pass.Given as given

abbrev pub ghosts-cut_as : given.ghosts-cut_as
ghosts-cut_as a = record { left = λ v. without_pass a._about.now v; right = λ v. right_pass a._about.now v }
