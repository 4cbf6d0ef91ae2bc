-- What the checks of a line say of its command.
use Rattle.std.proofs.Common.{◌≡◌, ℕ, ◌+◌, ◌≤◌, Bool, true, false, cond, nat_le, nat_lt, List, [], ◌∷◌, length, All, Contains, Option, Some, None, is_some, Ok, Err, refl, sym, subst, ◌⊎◌, inl, inr, arith}
use Rattle.std.specs.List.{list_all, list_any}
use Rattle.std.specs.Option.{option_or}
use Rattle.std.proofs.lemmas.Bool.Decides.{nat_tests}
use Rattle.std.proofs.lemmas.List.Elements.{All-nil, All-cons}
use Rattle.graph_model.specs.declared.limits.TheConstants.{MAX_ID, MAX_WEIGHT, MAX_ROUNDS, MAX_BEGINS}
use Rattle.run_model.specs.declared.command.Command.{Command}
use Rattle.run_model.specs.Commands.{next_txn, open_behind, IsCommand}
use Rattle.graphalytics_io.specs.declared.number.NumberFault.TheVariants as numbers
use Rattle.graphalytics_io.specs.Numbers.{is_number, number_of, number_within}
use Rattle.script_lang.specs.declared.word.Word.{Word}
use Rattle.script_lang.specs.declared.word.Word.TheVariants as words
use Rattle.script_lang.specs.declared.word.FieldKind.{FieldKind}
use Rattle.script_lang.specs.declared.word.FieldKind.TheVariants.{Vertex, Target, Weight, OptionalWeight, Rounds, Width, File}
use Rattle.script_lang.specs.declared.refusal.ScriptWhat.{ScriptWhat}
use Rattle.script_lang.specs.declared.refusal.ScriptWhat.TheVariants.{MissingField, ExtraField, BadName, NameTwice, TooManyBegins}
use Rattle.script_lang.specs.FieldFaults.{fault_of, is_name_byte, is_file_name, is_among, IsNameByte, file_fault, field_fault, fields_fault}
use Rattle.script_lang.specs.Runnable.{IsFileName}
use Rattle.script_lang.specs.Scripts.{Before, command_of, count_fault, place_fault, begins_fault, line_fault, read_behind, read_line, unless, began_behind, file_of}
use Rattle.script_lang.specs.Values.{Values, no_values, with_value, with_values}
use Rattle.script_lang.specs.Words.{needed, word_of, kinds_of}
use Rattle.script_lang.proofs.FaultLemmas.{neither}
use Rattle.script_lang.proofs.PlaceLemmas.{among_iff}

-- a line with a command has a word, and fails no check
pub record Passes (before : Before) (command : Command) : Type 0 where
  pub word : Word
  pub fields : List (List ℕ)
  pub faultless : line_fault before word fields ≡ None
  pub same : command ≡ command_of word (with_values no_values (kinds_of word) fields)

pub passes : (before : Before) (fields : List (List ℕ)) (command : Command) → read_line before fields ≡ Ok command → Passes before command
passes before [] command read = absurd (cc)
passes before (first ∷ fields) command read = with_word (word_of first) read
  where
    with_fault : (word : Word) (fault : Option ScriptWhat) → line_fault before word fields ≡ fault → unless fault (command_of word (with_values no_values (kinds_of word) fields)) ≡ Ok command → Passes before command
    with_fault word None none read = record { word = word; fields = fields; faultless = none; same = cc }
    with_fault word (Some what) some read = absurd (cc)

    with_word : (found : Option Word) → read_behind before found fields ≡ Ok command → Passes before command
    with_word None read = absurd (cc)
    with_word (Some word) read = with_fault word (line_fault before word fields) refl read

both_none : {X : Type 0} (a b : Option X) → option_or a b ≡ None → (a ≡ None) × (b ≡ None)
both_none None b none = (refl, none)
both_none (Some x) b none = absurd (cc)

-- each number is within its limit, and the file is a new name
pub record IsWithin (values : Values) : Type 0 where
  pub vertex : values.vertex ≤ MAX_ID
  pub target : values.target ≤ MAX_ID
  pub weight : values.weight ≤ MAX_WEIGHT
  pub rounds : values.rounds ≤ MAX_ROUNDS

number_fits : (limit : ℕ) (above : ScriptWhat) (field : List ℕ) → fault_of above (number_within limit field) ≡ None → number_of field ≤ limit
number_fits limit above field none = with_test (is_number field) (nat_le (number_of field) limit) refl none
  where
    with_test : (number within : Bool) → nat_le (number_of field) limit ≡ within → fault_of above (cond number (cond within (Ok (number_of field)) (Err numbers.TooLarge)) (Err numbers.NotANumber)) ≡ None → number_of field ≤ limit
    with_test true true is none = grind (arith, nat_tests, is)
    with_test true false is none = absurd (cc)
    with_test false within is none = absurd (cc)

-- a field that names a file
abbrev pub is_file : FieldKind → Bool
is_file Vertex = false
is_file Target = false
is_file Weight = false
is_file OptionalWeight = false
is_file Rounds = false
is_file Width = false
is_file File = true

module _ (taken : List (List ℕ)) where
  within_more : (values : Values) (kind : FieldKind) (field : List ℕ) → IsWithin values → field_fault taken kind field ≡ None → IsWithin (with_value values kind field)
  within_more values Vertex field within none = record { vertex = number_fits MAX_ID _ field none; target = within.target; weight = within.weight; rounds = within.rounds }
  within_more values Target field within none = record { vertex = within.vertex; target = number_fits MAX_ID _ field none; weight = within.weight; rounds = within.rounds }
  within_more values Weight field within none = record { vertex = within.vertex; target = within.target; weight = number_fits MAX_WEIGHT _ field none; rounds = within.rounds }
  within_more values OptionalWeight field within none = record { vertex = within.vertex; target = within.target; weight = number_fits MAX_WEIGHT _ field none; rounds = within.rounds }
  within_more values Rounds field within none = record { vertex = within.vertex; target = within.target; weight = within.weight; rounds = number_fits MAX_ROUNDS _ field none }
  within_more values Width field within none = record { vertex = within.vertex; target = within.target; weight = within.weight; rounds = within.rounds }
  within_more values File field within none = record { vertex = within.vertex; target = within.target; weight = within.weight; rounds = within.rounds }

  -- the values of fields without a fault are within their limits
  pub values_within : (values : Values) (kinds : List FieldKind) (fields : List (List ℕ)) → IsWithin values → fields_fault taken kinds fields ≡ None → IsWithin (with_values values kinds fields)
  values_within values [] fields within none = within
  values_within values (kind ∷ kinds) [] within none = within
  values_within values (kind ∷ kinds) (field ∷ fields) within none =
      let both = neither (field_fault taken kind field) (fields_fault taken kinds fields) none in
      values_within (with_value values kind field) kinds fields (within_more values kind field within both.0) both.1

  -- a name that a file may have, and that isn't taken
  pub record IsNewName (file : List ℕ) : Type 0 where
    pub named : IsFileName file
    pub new : Contains taken file → ⊥

  printable : (bytes : List ℕ) → list_all is_name_byte bytes ≡ true → All IsNameByte bytes
  printable [] each = All-nil IsNameByte
  printable (byte ∷ bytes) each = All-cons IsNameByte byte bytes (grind (arith, nat_tests, each)) (printable bytes (grind (arith, nat_tests, each)))

  new_name : (file : List ℕ) → file_fault taken file ≡ None → IsNewName file
  new_name [] none = absurd (cc)
  new_name (byte ∷ file) none = with_tests (is_file_name (byte ∷ file)) refl (is_among taken (byte ∷ file)) refl none
    where
      with_tests : (name : Bool) → is_file_name (byte ∷ file) ≡ name → (among : Bool) → is_among taken (byte ∷ file) ≡ among → cond name (cond among (Some NameTwice) None) (Some BadName) ≡ None → IsNewName (byte ∷ file)
      with_tests true name true among none = absurd (cc)
      with_tests true name false among none = record {
        named = record { some = omega arith; printable = printable (byte ∷ file) name };
        new = λ there. let wrong = (among_iff taken (byte ∷ file) false (sym among)).1 there in absurd (cc);
      }
      with_tests false name among other none = absurd (cc)

  -- the file is a new name already, or is still to come
  abbrev IsNamed : Values → List FieldKind → Type 0
  IsNamed values kinds = IsNewName values.file ⊎ (list_any is_file kinds ≡ true)

  named_more : (values : Values) (kind : FieldKind) (kinds : List FieldKind) (field : List ℕ) → IsNamed values (kind ∷ kinds) → field_fault taken kind field ≡ None → IsNamed (with_value values kind field) kinds
  named_more values Vertex kinds field named none = named
  named_more values Target kinds field named none = named
  named_more values Weight kinds field named none = named
  named_more values OptionalWeight kinds field named none = named
  named_more values Rounds kinds field named none = named
  named_more values Width kinds field named none = named
  named_more values File kinds field named none = inl (new_name field none)

  -- where there is a field for each kind, and one for a file, its name is new
  pub file_named : (values : Values) (kinds : List FieldKind) (fields : List (List ℕ)) → IsNamed values kinds → length kinds ≤ length fields → fields_fault taken kinds fields ≡ None → IsNewName (with_values values kinds fields).file
  file_named values [] fields (inl named) enough none = named
  file_named values [] fields (inr wrong) enough none = absurd (cc)
  file_named values (kind ∷ kinds) [] named enough none = absurd (omega arith)
  file_named values (kind ∷ kinds) (field ∷ fields) named enough none =
      let both = neither (field_fault taken kind field) (fields_fault taken kinds fields) none in
      file_named (with_value values kind field) kinds fields (named_more values kind kinds field named both.0) (omega arith) both.1

-- each command of a word with such values is within its limits
command_within : (word : Word) (values : Values) → IsWithin values → IsCommand (command_of word values)
command_within words.Begin values within = tt
command_within words.Commit values within = tt
command_within words.Abort values within = tt
command_within words.Vertex values within = within.vertex
command_within words.Unvertex values within = within.vertex
command_within words.Edge values within = (within.vertex, within.target, within.weight)
command_within words.Set values within = (within.vertex, within.target, within.weight)
command_within words.Drop values within = (within.vertex, within.target)
command_within words.Weight values within = (within.vertex, within.target)
command_within words.Neighbours values within = within.vertex
command_within words.Count values within = tt
command_within words.Bfs values within = within.vertex
command_within words.Wcc values within = tt
command_within words.Cdlp values within = within.rounds
command_within words.Sssp values within = within.vertex
command_within words.FastBfs values within = within.vertex
command_within words.FastSssp values within = within.vertex

-- a line that may stand where it does leaves a transaction open, or none, as a script asks
opens : (word : Word) (began : Option ℕ) (number : ℕ) (values : Values) → place_fault word (is_some began) ≡ None
    → open_behind (is_some began) (command_of word values) ≡ Some (is_some (began_behind began number (command_of word values)))
opens words.Begin None number values none = refl
opens words.Begin (Some first) number values none = absurd (cc)
opens word None number values none = absurd (cc)
opens word (Some first) number values none = refl

-- a line leaves the number of `begin` lines within its limit
begins : (word : Word) (begun : ℕ) (values : Values) → begun ≤ MAX_BEGINS → begins_fault word begun ≡ None → next_txn begun (command_of word values) ≤ MAX_BEGINS
begins words.Begin begun values within none = with_test (nat_le MAX_BEGINS begun) refl none
  where
    with_test : (v : Bool) → nat_le MAX_BEGINS begun ≡ v → cond v (Some TooManyBegins) None ≡ None → begun + 1 ≤ MAX_BEGINS
    with_test true is none = absurd (cc)
    with_test false is none = grind (arith, nat_tests, is)
begins word begun values within none = within

-- a line that passes the check of its count has each field that has to be there
enough : (kinds : List FieldKind) (count : ℕ) → count_fault kinds count ≡ None → needed kinds ≤ count
enough kinds count counted = with_test (nat_lt count (needed kinds)) refl counted
  where
    with_test : (v : Bool) → nat_lt count (needed kinds) ≡ v → cond v (Some MissingField) (cond (nat_lt (length kinds) count) (Some ExtraField) None) ≡ None → needed kinds ≤ count
    with_test true is none = absurd (cc)
    with_test false is none = grind (arith, nat_tests, is)

-- the file of fields that all have to be there
asked : (taken : List (List ℕ)) (kinds : List FieldKind) (fields : List (List ℕ)) → list_any is_file kinds ≡ true → needed kinds ≡ length kinds
    → count_fault kinds (length fields) ≡ None → fields_fault taken kinds fields ≡ None → All (IsNewName taken) ((with_values no_values kinds fields).file ∷ [])
asked taken kinds fields file all counted none =
    All-cons (IsNewName taken) _ [] (file_named taken no_values kinds fields (inr file) (subst (λ n. n ≤ length fields) all (enough kinds (length fields) counted)) none) (All-nil (IsNewName taken))

-- the file of a line is a new name
asks : (taken : List (List ℕ)) (word : Word) (fields : List (List ℕ)) → count_fault (kinds_of word) (length fields) ≡ None → fields_fault taken (kinds_of word) fields ≡ None
    → All (IsNewName taken) (file_of (command_of word (with_values no_values (kinds_of word) fields)))
asks taken words.Bfs fields counted none = asked taken (kinds_of words.Bfs) fields refl refl counted none
asks taken words.Wcc fields counted none = asked taken (kinds_of words.Wcc) fields refl refl counted none
asks taken words.Cdlp fields counted none = asked taken (kinds_of words.Cdlp) fields refl refl counted none
asks taken words.Sssp fields counted none = asked taken (kinds_of words.Sssp) fields refl refl counted none
asks taken words.FastBfs fields counted none = asked taken (kinds_of words.FastBfs) fields refl refl counted none
asks taken words.FastSssp fields counted none = asked taken (kinds_of words.FastSssp) fields refl refl counted none
asks taken word fields counted none = All-nil (IsNewName taken)

-- what holds of the command of a line
pub record IsAllowed (before : Before) (number : ℕ) (command : Command) : Type 0 where
  pub within : IsCommand command
  pub opens : open_behind (is_some before.began) command ≡ Some (is_some (began_behind before.began number command))
  pub begins : next_txn before.begun command ≤ MAX_BEGINS
  pub file : All (IsNewName before.taken) (file_of command)

pub allowed : (before : Before) (number : ℕ) (fields : List (List ℕ)) (command : Command) → before.begun ≤ MAX_BEGINS → read_line before fields ≡ Ok command → IsAllowed before number command
allowed before number fields command few read =
    let line = passes before fields command read in
    let counted = both_none (count_fault (kinds_of line.word) (length line.fields)) _ line.faultless in
    let placed = both_none (place_fault line.word (is_some before.began)) _ counted.1 in
    let read = both_none (fields_fault before.taken (kinds_of line.word) line.fields) (begins_fault line.word before.begun) placed.1 in
    let start : IsWithin no_values = record { vertex = omega arith; target = omega arith; weight = omega arith; rounds = omega arith } in
    subst (IsAllowed before number) (sym line.same) (record {
      within = command_within line.word _ (values_within before.taken no_values (kinds_of line.word) line.fields start read.0);
      opens = opens line.word before.began number _ placed.0;
      begins = begins line.word before.begun _ few read.1;
      file = asks before.taken line.word line.fields counted.0 read.0;
    })
