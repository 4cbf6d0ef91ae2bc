use Rattle.store_rule.proofs.store.Store.change.Given as given

abbrev pub ghosts-load_as : given.ghosts-load_as
ghosts-load_as g a = record { next = g.C.Change.next a._about.now; told = g.C.Change.told a._about.now }
