-- what was read of the texts so far
use Rattle.std.proofs.Common.{take}
use Rattle.std.specs.List.{AllZip}
use Rattle.script_lang.specs.Early.{IsEarly}
use Rattle.script_lang.proofs.early.read_each.Given as goal

abbrev pub invariant-texts : goal.invariant-texts
invariant-texts l = AllZip (IsEarly l.taken) (take l.text-index l.texts) l.early.items
