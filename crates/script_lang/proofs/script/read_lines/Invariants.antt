-- the commands so far, and what the lines that are left stand for, are what the text stands for
use Rattle.std.proofs.Common.{◌≡◌, ◌≤◌, ◌++◌, length}
use Rattle.graph_model.specs.declared.limits.TheConstants.{MAX_BEGINS}
use Rattle.script_lang.specs.Readings.{before_of}
use Rattle.script_lang.specs.Scripts.{script_of, files_of, read_lines}
use Rattle.script_lang.proofs.ResultLemmas.{after}
use Rattle.script_lang.proofs.script.read_lines.Given as goal

abbrev pub invariant-lines : goal.invariant-lines
invariant-lines l = record {
  read : after l.reading.script (read_lines (before_of l.reading l.taken) l.lines) ≡ script_of l.fn.taken l.text;
  names : l.taken ≡ l.fn.taken ++ files_of l.reading.script;
  begun : l.reading.begun ≤ MAX_BEGINS;
}

abbrev pub decreases-lines : goal.decreases-lines
decreases-lines l = length l.lines
