-- What a script's text stands for: its commands, or its first fault.
use Rattle.std.specs.Prelude.{◌≡◌, ℕ, Bool, cond, nat_le, nat_lt, ◌&&◌, List, [], ◌∷◌, ◌++◌, length, Option, None, Some, is_some, Result, Ok, Err}
use Rattle.std.specs.List.{flat_map}
use Rattle.std.specs.Option.{option_or}
use Rattle.graph_model.specs.declared.limits.TheConstants.{MAX_BEGINS}
use Rattle.graph_model.specs.declared.write.Write.TheVariants as writes
use Rattle.run_model.specs.declared.command.Command.{Command}
use Rattle.run_model.specs.declared.command.Command.TheVariants as commands
use Rattle.run_model.specs.declared.command.Kernel.TheVariants.{Bfs, Wcc, Cdlp, Sssp, FastBfs, FastSssp}
use Rattle.run_model.specs.declared.command.Query.TheVariants.{WeightOf, NeighboursOf, Counts}
use Rattle.run_model.specs.Commands.{next_txn}
use Rattle.graphalytics_io.specs.declared.lines.FieldLine.{FieldLine}
use Rattle.graphalytics_io.specs.FieldLines.{field_lines}
use Rattle.script_lang.specs.declared.word.Word.{Word}
use Rattle.script_lang.specs.declared.word.Word.TheVariants as words
use Rattle.script_lang.specs.declared.word.FieldKind.{FieldKind}
use Rattle.script_lang.specs.declared.refusal.ScriptWhat.{ScriptWhat}
use Rattle.script_lang.specs.declared.refusal.ScriptWhat.TheVariants.{NotACommand, MissingField, ExtraField, NotBegun, BegunTwice, TooManyBegins, NotEnded}
use Rattle.script_lang.specs.declared.refusal.ScriptRefusal.{ScriptRefusal}
use Rattle.script_lang.specs.declared.refusal.ScriptRefusal.TheVariants.{Fault, NoMemory}
use Rattle.script_lang.specs.Results.{in_front}
use Rattle.script_lang.specs.FieldFaults.{fields_fault}
use Rattle.script_lang.specs.Values.{Values, no_values, with_values}
use Rattle.script_lang.specs.Words.{word_of, kinds_of, needed, is_begin}

-- the command of each word, with what its fields say
abbrev pub command_of : Word → Values → Command
command_of words.Begin values = commands.Begin
command_of words.Commit values = commands.Commit
command_of words.Abort values = commands.Abort
command_of words.Vertex values = commands.Write (writes.AddVertex values.vertex)
command_of words.Unvertex values = commands.Write (writes.DropVertex values.vertex)
command_of words.Edge values = commands.Write (writes.AddEdge values.vertex values.target values.weight)
command_of words.Set values = commands.Write (writes.SetEdge values.vertex values.target values.weight)
command_of words.Drop values = commands.Write (writes.DropEdge values.vertex values.target)
command_of words.Weight values = commands.Read (WeightOf values.vertex values.target)
command_of words.Neighbours values = commands.Read (NeighboursOf values.vertex)
command_of words.Count values = commands.Read Counts
command_of words.Bfs values = commands.Run (Bfs values.vertex) values.file
command_of words.Wcc values = commands.Run Wcc values.file
command_of words.Cdlp values = commands.Run (Cdlp values.rounds) values.file
command_of words.Sssp values = commands.Run (Sssp values.vertex) values.file
command_of words.FastBfs values = commands.Run (FastBfs values.vertex) values.file
command_of words.FastSssp values = commands.Run (FastSssp values.vertex values.width) values.file

-- too few or too many fields
abbrev pub count_fault : List FieldKind → ℕ → Option ScriptWhat
count_fault kinds count =
    cond (nat_lt count (needed kinds)) (Some MissingField)
    (cond (nat_lt (length kinds) count) (Some ExtraField) None)

-- `begin` inside a transaction, or another line outside of one
abbrev pub place_fault : Word → Bool → Option ScriptWhat
place_fault word is_open =
    cond (is_begin word) (cond is_open (Some BegunTwice) None)
    (cond is_open None (Some NotBegun))

-- one `begin` more than a script may have
abbrev pub begins_fault : Word → ℕ → Option ScriptWhat
begins_fault word begun = cond (is_begin word && nat_le MAX_BEGINS begun) (Some TooManyBegins) None

-- what is known before a line: the line of the `begin` that is open, if one is, how many `begin` lines there were,
-- and the names taken
pub record Before : Type 0 where
  pub began : Option ℕ
  pub begun : ℕ
  pub taken : List (List ℕ)

-- the first check that a line with this word fails, if it fails one
abbrev pub line_fault : Before → Word → List (List ℕ) → Option ScriptWhat
line_fault before word fields =
    option_or (count_fault (kinds_of word) (length fields))
    (option_or (place_fault word (is_some before.began))
    (option_or (fields_fault before.taken (kinds_of word) fields)
    (begins_fault word before.begun)))

-- a command, unless there is a fault
abbrev pub unless : Option ScriptWhat → Command → Result Command ScriptWhat
unless None command = Ok command
unless (Some what) command = Err what

-- the command of a line whose first field is this word, or the line's fault
abbrev pub read_behind : Before → Option Word → List (List ℕ) → Result Command ScriptWhat
read_behind before None fields = Err NotACommand
read_behind before (Some word) fields =
    unless (line_fault before word fields) (command_of word (with_values no_values (kinds_of word) fields))

-- the command of a line, or its fault
abbrev pub read_line : Before → List (List ℕ) → Result Command ScriptWhat
read_line before [] = Err NotACommand
read_line before (word ∷ fields) = read_behind before (word_of word) fields

-- the line of the `begin` that is open behind a line
abbrev pub began_behind : Option ℕ → ℕ → Command → Option ℕ
began_behind began number commands.Begin = Some number
began_behind began number commands.Commit = None
began_behind began number commands.Abort = None
began_behind began number (commands.Write w) = began
began_behind began number (commands.Read query) = began
began_behind began number (commands.Run kernel file) = began

-- the file that a command asks for, if it asks for one
abbrev pub file_of : Command → List (List ℕ)
file_of commands.Begin = []
file_of commands.Commit = []
file_of commands.Abort = []
file_of (commands.Write w) = []
file_of (commands.Read query) = []
file_of (commands.Run kernel file) = file ∷ []

-- the files that a script asks for, in order
abbrev pub files_of : List Command → List (List ℕ)
files_of script = flat_map file_of script

-- what is known behind a line with this number and command
abbrev pub behind : Before → ℕ → Command → Before
behind before number command = record {
  began = began_behind before.began number command;
  begun = next_txn before.begun command;
  taken = before.taken ++ file_of command;
}

-- a line's command, and then the others; or the line's fault
abbrev pub then_lines : ℕ → Result Command ScriptWhat → (Command → Result (List Command) ScriptRefusal)
    → Result (List Command) ScriptRefusal
then_lines number (Ok command) lines = in_front command (lines command)
then_lines number (Err what) lines = Err (Fault number what)

-- the end of a text, where no transaction may be open
abbrev pub at_end : Option ℕ → Result (List Command) ScriptRefusal
at_end None = Ok []
at_end (Some number) = Err (Fault number NotEnded)

-- the commands of lines, or the fault of the first line that has one
abbrev pub read_lines : Before → List FieldLine → Result (List Command) ScriptRefusal
read_lines before [] = at_end before.began
read_lines before (line ∷ lines) =
    then_lines line.number (read_line before line.fields)
    (λ command. read_lines (behind before line.number command) lines)

-- what a script's text stands for where these names are taken
abbrev pub script_of : List (List ℕ) → List ℕ → Result (List Command) ScriptRefusal
script_of taken text = read_lines (record { began = None; begun = 0; taken = taken }) (field_lines text)

-- a refusal is the first fault, unless memory ran out
abbrev pub IsRefused : Result (List Command) ScriptRefusal → ScriptRefusal → Type 0
IsRefused expected (Fault line what) = expected ≡ Err (Fault line what)
IsRefused expected NoMemory = Unit {0}
