-- What a run asks of a script.
use Rattle.std.specs.Prelude.{◌≢◌, ℕ, ◌<◌, ◌≤◌, false, List, length, Some, All, AllPairs, Contains}
use Rattle.graph_model.specs.declared.limits.TheConstants.{MAX_BEGINS}
use Rattle.run_model.specs.declared.command.Command.{Command}
use Rattle.run_model.specs.Commands.{IsScript, begun_by}
use Rattle.script_lang.specs.FieldFaults.{IsNameByte}
use Rattle.script_lang.specs.Scripts.{files_of}

-- one or more bytes of printable ASCII, and no blank
pub record IsFileName (file : List ℕ) : Type 0 where
  pub some : 0 < length file
  pub printable : All IsNameByte file

-- transactions one behind the other, not too many, with new names for their files
pub record IsRunnable (taken : List (List ℕ)) (script : List Command) : Type 0 where
  pub transactions : IsScript (Some false) script
  pub begins : begun_by 0 script ≤ MAX_BEGINS
  pub named : All IsFileName (files_of script)
  pub new : All (λ file. Contains taken file → ⊥) (files_of script)
  pub distinct : AllPairs (λ file other. file ≢ other) (files_of script)
