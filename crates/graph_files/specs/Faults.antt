-- The faults of vertex and edge files (LDBC Graphalytics, `.v` and `.e`).
use Rattle.std.specs.Prelude.{◌≡◌, ℕ, List, codes, Result, Ok, Err}
use Rattle.graph_files.specs.declared.refusal.What.{What}
use Rattle.graph_files.specs.declared.refusal.What.TheVariants.{NotANumber, IdTooLarge, DuplicateVertex, DuplicateEdge, UnknownVertex, SelfLoop, MissingField, ExtraField, WeightTooFine, WeightTooLarge, TooManyRows}
use Rattle.graph_files.specs.declared.refusal.Fault.{Fault}
use Rattle.graph_files.specs.declared.refusal.ReadRefusal.{ReadRefusal}
use Rattle.graph_files.specs.declared.refusal.ReadRefusal.TheVariants as refusals

-- what is said of each fault
abbrev pub what_text : What → List ℕ
what_text NotANumber = codes "not a number"
what_text IdTooLarge = codes "id too large"
what_text DuplicateVertex = codes "duplicate vertex"
what_text DuplicateEdge = codes "duplicate edge"
what_text UnknownVertex = codes "unknown vertex"
what_text SelfLoop = codes "self loop"
what_text MissingField = codes "missing field"
what_text ExtraField = codes "extra field"
what_text WeightTooFine = codes "weight too fine"
what_text WeightTooLarge = codes "weight too large"
what_text TooManyRows = codes "too many rows"

-- what a check found, and then the next check; or the fault of the first check that fails
abbrev pub then_check : {X Y : Type 0} → Result X What → (X → Result Y What) → Result Y What
then_check (Ok found) next = next found
then_check (Err what) next = Err what

-- what a line stands for, and then the lines behind it; or the line's fault
abbrev pub then_lines : {X Y : Type 0} → ℕ → Result X What → (X → Result Y Fault) → Result Y Fault
then_lines number (Ok found) lines = lines found
then_lines number (Err what) lines = Err (record { line = number; what = what })

-- a refusal is the first fault, unless memory ran out
abbrev pub IsRefused : {X : Type 0} → Result X Fault → ReadRefusal → Type 0
IsRefused expected (refusals.Fault fault) = expected ≡ Err fault
IsRefused expected refusals.NoMemory = Unit {0}
