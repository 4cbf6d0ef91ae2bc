-- the scripts so far stand for their texts, and their files are taken; what was read early is right where the names are
-- those of before
use Rattle.std.proofs.Common.{◌≡◌, take, length}
use Rattle.std.specs.List.{AllZip}
use Rattle.script_lang.specs.Early.{IsEarly}
use Rattle.source_run.specs.Input.{AreScripts}
use Rattle.source_run.specs.Parsing.{AreRunnable}
use Rattle.source_run.proofs.InputLemmas.{taken_behind}
use Rattle.source_run.proofs.input.parse_scripts.Given as goal

abbrev pub invariant-texts : goal.invariant-texts
invariant-texts g l = AreScripts l.fn.taken (take l.k l.texts) l.scripts × AreRunnable l.fn.taken l.scripts
    × (l.taken ≡ taken_behind l.fn.taken l.scripts)
    × AllZip (IsEarly l.fn.taken) l.texts l.early.items
    × (l.before ≡ length l.fn.taken)
