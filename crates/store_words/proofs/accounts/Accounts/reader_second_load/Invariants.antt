use Rattle.store_words.specs.Reads.{ReaderIsTold, read_ended}
use Rattle.store_words.proofs.accounts.Accounts.reader_second_load.Given as given

abbrev pub ghosts-load_as : given.ghosts-load_as
ghosts-load_as a = record { next = λ n v. read_ended v n; told = λ n v. ReaderIsTold a._about.now v n }
