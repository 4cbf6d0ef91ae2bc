-- A script that is read as far as some line.
use Rattle.std.specs.Prelude.{◌≡◌, ℕ, ◌≤◌, List, [], ◌∷◌, ◌++◌, Ok, Err}
use Rattle.graph_model.specs.declared.limits.TheConstants.{MAX_BEGINS}
use Rattle.run_model.specs.declared.command.Command.{Command}
use Rattle.graphalytics_io.specs.declared.lines.FieldLine.{FieldLine}
use Rattle.script_lang.specs.declared.refusal.ScriptRefusal.{ScriptRefusal}
use Rattle.script_lang.specs.declared.refusal.ScriptRefusal.TheVariants.{Fault, NoMemory}
use Rattle.script_lang.specs.declared.reading.ScriptSoFar.{ScriptSoFar}
use Rattle.script_lang.specs.Scripts.{Before, behind, read_line}

-- what is known before the next line
abbrev pub before_of : ScriptSoFar → List (List ℕ) → Before
before_of reading taken = record { began = reading.began; begun = reading.begun; taken = taken }

-- one more line is read: its command stands behind the others
pub record ReadsLine (old : ScriptSoFar) (old_taken : List (List ℕ)) (line : FieldLine)
    (new : ScriptSoFar) (new_taken : List (List ℕ)) : Type 0 where
  pub command : Command
  pub read : read_line (before_of old old_taken) line.fields ≡ Ok command
  pub script : new.script ≡ old.script ++ command ∷ []
  pub known : before_of new new_taken ≡ behind (before_of old old_taken) line.number command
  pub begun : new.begun ≤ MAX_BEGINS

-- a line is refused for its fault, or for want of memory
abbrev pub IsRefusedLine : ScriptSoFar → List (List ℕ) → FieldLine → ScriptRefusal → Type 0
IsRefusedLine old taken line (Fault number what) =
    (number ≡ line.number) × (read_line (before_of old taken) line.fields ≡ Err what)
IsRefusedLine old taken line NoMemory = Unit {0}
