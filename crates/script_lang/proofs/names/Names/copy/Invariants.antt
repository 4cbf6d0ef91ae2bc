-- the names so far
use Rattle.std.proofs.Common.{◌≡◌, take}
use Rattle.script_lang.proofs.names.Names.copy.Given as goal

abbrev pub invariant-names : goal.invariant-names
invariant-names l = l.names ≡ take l.name-index l.self
