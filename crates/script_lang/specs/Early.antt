-- Scripts that are read before those in front of them.
use Rattle.std.specs.Prelude.{◌≡◌, ℕ, List, [], Option, IfSome, Ok}
use Rattle.run_model.specs.declared.command.Command.{Command}
use Rattle.script_lang.specs.Runnable.{IsRunnable}
use Rattle.script_lang.specs.Scripts.{script_of, files_of}

-- a text stands for this script where these names are taken, and it asks for no file
pub record IsScriptAlone (taken : List (List ℕ)) (text : List ℕ) (script : List Command) : Type 0 where
  pub is : script_of taken text ≡ Ok script
  pub runnable : IsRunnable taken script
  pub files : files_of script ≡ []

-- what was read of a text, if anything was
abbrev pub IsEarly : List (List ℕ) → List ℕ → Option (List Command) → Type 0
IsEarly taken text read = IfSome read (IsScriptAlone taken text)
