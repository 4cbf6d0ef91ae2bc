-- the first fault so far and those of the fields that are left make the line's first fault
use Rattle.std.proofs.Common.{◌≡◌, drop, None}
use Rattle.script_lang.specs.Faults.{earlier}
use Rattle.script_lang.specs.FieldFaults.{fields_fault}
use Rattle.script_lang.specs.Values.{no_values, with_values}
use Rattle.script_lang.proofs.arguments.read_arguments.Given as goal

abbrev pub invariant-kinds : goal.invariant-kinds
invariant-kinds l = record {
  fault : earlier l.fault (fields_fault l.taken (drop l.kind-index l.kinds) l.left) ≡ fields_fault l.taken l.kinds l.fn.fields;
  values : l.fault ≡ None → with_values l.arguments (drop l.kind-index l.kinds) l.left ≡ with_values no_values l.kinds l.fn.fields;
}
