use Rattle.store_words.specs.Reads.{word_read}
use Rattle.store_words.proofs.accounts.Accounts.block_load.Given as given

abbrev pub ghosts-load_as : given.ghosts-load_as
ghosts-load_as a = record { next = λ n v. word_read v a._about.now n; told = λ n v. Unit {0} }
