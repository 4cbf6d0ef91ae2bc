-- Names of printable ASCII are text.
use Rattle.std.proofs.Common.{ℕ, List, arith}
use Rattle.std.specs.Prelude.{All}
use Rattle.std.specs.Str.{IsUtf8}
use Rattle.std.proofs.lemmas.Str.{IsUtf8-from_ascii}
use Rattle.std.proofs.lemmas.Str.Ascii.{IsAscii-from_all}
use Rattle.source_run.specs.ScriptLang.FieldFaults.{IsNameByte}

pub name_is_text : (name : List ℕ) → All IsNameByte name → IsUtf8 name
name_is_text name printable = IsUtf8-from_ascii name (IsAscii-from_all name (λ k d lt. omega (arith, printable k d lt)))
